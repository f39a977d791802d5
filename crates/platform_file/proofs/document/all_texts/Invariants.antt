use Rattle.std.proofs.Common.{map}
use Rattle.toml.specs.Data.{as_str}
use Rattle.platform_file.proofs.ItemReading.{IsReadSoFar}
use Rattle.platform_file.proofs.document.all_texts.Given as goal

abbrev pub invariant-loop-value : goal.invariant-loop-value
invariant-loop-value l = IsReadSoFar as_str l.values l.value-index (map (λ text. text.now) l.texts.items)
