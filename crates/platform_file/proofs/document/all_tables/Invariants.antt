use Rattle.std.proofs.Common.{map}
use Rattle.toml.specs.Data.{as_table}
use Rattle.toml.specs.View.{table_view}
use Rattle.platform_file.proofs.ItemReading.{IsReadSoFar}
use Rattle.platform_file.proofs.document.all_tables.Given as goal

abbrev pub invariant-loop-value : goal.invariant-loop-value
invariant-loop-value l = IsReadSoFar as_table l.values l.value-index (map (λ table. table_view table.now) l.tables.items)
