use Rattle.std.proofs.Common.{◌≡◌, map}
use Rattle.std.specs.List.{range_with_len}
use Rattle.run_text.specs.Counts.{dones_at}
use Rattle.run_text.proofs.counting.counts_of.Given as goal

abbrev pub invariant-loop-node : goal.invariant-loop-node
invariant-loop-node l = l.counts.items ≡ map (λ node. dones_at node l.actors l.wiring) (range_with_len 0 l.node)
