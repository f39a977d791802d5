use Rattle.std.proofs.Common.{ℕ, ◌<◌, get_or}
use Rattle.period_table.specs.Lanes.{lanes_of}
use Rattle.period_table.specs.declared.table.Slot.{Slot}
use Rattle.period_table.specs.Tables.{IsSlot}
use Rattle.period_table.proofs.fitting.are_slots.Given as goal

abbrev pub invariant-loop-slot : goal.invariant-loop-slot
invariant-loop-slot l = (k : ℕ) (d : Slot) → k < l.slot-index → IsSlot (lanes_of l.routes) (get_or l.slots k d)
