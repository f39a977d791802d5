use Rattle.std.proofs.Common.{◌≡◌, ◌≤◌, ◌++◌, drop, length}
use Rattle.period_table.specs.TableSchedules.{sends_of_slots}
use Rattle.period_table.proofs.BusySends.{sends_of_busy}
use Rattle.period_table.proofs.placing.place_slots.Given as goal

abbrev pub invariant-loop-at : goal.invariant-loop-at
invariant-loop-at l = record {
  few : length (sends_of_busy l.timed l.lanes l.period l.slots l.start (drop l.at-index l.busy)) ≤ 4000000;
  rest : l.out.items ++ sends_of_busy l.timed l.lanes l.period l.slots l.start (drop l.at-index l.busy) ≡ l.fn.out.items ++ sends_of_slots l.timed l.lanes l.period l.start l.slots;
}
