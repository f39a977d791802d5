use Rattle.std.proofs.Common.{◌≡◌, ◌+◌, ◌++◌, drop, sum_by}
use Rattle.period_table.specs.BusySlots.{busy_slots}
use Rattle.period_table.proofs.busy.busy_slots.Given as goal

abbrev pub invariant-loop-slot : goal.invariant-loop-slot
invariant-loop-slot l = record {
  number : l.number ≡ l.slot-index;
  start : l.start + sum_by (λ slot. slot.duration) (drop l.slot-index l.slots) ≡ sum_by (λ slot. slot.duration) l.slots;
  rest : l.busy ++ busy_slots l.start l.number (drop l.slot-index l.slots) ≡ busy_slots 0 0 l.slots;
}
