use Rattle.std.proofs.Common.{◌≡◌, take, map}
use Rattle.period_table.proofs.unrolling.operations_of.Given as goal

abbrev pub invariant-loop-item : goal.invariant-loop-item
invariant-loop-item l = l.ops ≡ map (λ p. p.op) (take l.item-index l.placed)
