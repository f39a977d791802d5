use Rattle.bipartite_slots.proofs.Splitting.{IsSplitting}
use Rattle.bipartite_slots.proofs.split.take_parts.Given as goal

abbrev pub invariant-loop-left : goal.invariant-loop-left
invariant-loop-left l = IsSplitting l.weights l.total l.columns l.square l.holders l.seen l.parts.items l.left

abbrev pub decreases-loop-left : goal.decreases-loop-left
decreases-loop-left l = l.left
