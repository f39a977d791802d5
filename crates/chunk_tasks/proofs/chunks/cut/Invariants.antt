use Rattle.std.proofs.Common.{◌≡◌}
use Rattle.chunk_tasks.specs.Chunks.{items_below}
use Rattle.chunk_tasks.proofs.chunks.cut.Given as goal

abbrev pub invariant-loop-number : goal.invariant-loop-number
invariant-loop-number l = l.items.items ≡ items_below l.size l.bytes l.number
