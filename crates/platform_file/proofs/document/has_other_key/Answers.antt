use Rattle.std.proofs.Common.{◌∙◌, not, bytes_eq}
use Rattle.std.specs.List.{list_any}
use Rattle.toml.specs.View.{table_view}
use Rattle.platform_file.specs.Documents.{keys_of}
use Rattle.platform_file.proofs.TableKeys.{some_key, other_keys}
use Rattle.platform_file.proofs.document.has_other_key.Goals as goal

pub returns : goal.returns
returns c =
    c.any_other_key.ensures
    ∙ some_key (λ key. not (list_any (λ name. bytes_eq key name.now) c.args.names.now)) c.args.table.now
    ∙ other_keys c.args.names.now (keys_of (table_view c.args.table.now))
