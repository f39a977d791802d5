use Rattle.std.proofs.Common.{◌≡◌, ◌≤◌, length, take, sum_by}
use Rattle.run_text.specs.Counts.{dones_below}
use Rattle.run_text.proofs.counting.dones_at.Given as goal

abbrev pub invariant-loop-number : goal.invariant-loop-number
invariant-loop-number l = record {
  value : l.count ≡ dones_below l.node l.actors l.wiring l.number;
  few : l.count ≤ sum_by length (take l.number l.wiring.programs);
}
