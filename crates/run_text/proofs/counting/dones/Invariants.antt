use Rattle.std.proofs.Common.{◌≡◌, ◌≤◌, take, count_by}
use Rattle.step_core.specs.Tasks.{is_done}
use Rattle.run_text.proofs.counting.dones.Given as goal

abbrev pub invariant-loop-event : goal.invariant-loop-event
invariant-loop-event l = record {
  value : l.count ≡ count_by is_done (take l.event-index l.program);
  few : l.count ≤ l.event-index;
}
