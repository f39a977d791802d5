-- The slots of a table in which something moves (this project): the others take no part in a schedule.
use Rattle.std.specs.Prelude.{ℕ, ◌+◌, List, [], ◌∷◌, length, cond, nat_eq}
use Rattle.period_table.specs.declared.table.Slot.{Slot}
use Rattle.period_table.specs.declared.busy.BusySlot.{BusySlot}

-- the slots with pieces, each with its number and the ticks before it, for slots numbered from one on
abbrev pub busy_slots : ℕ → ℕ → List Slot → List BusySlot
busy_slots start number [] = []
busy_slots start number (slot ∷ slots) =
    cond (nat_eq (length slot.pieces) 0) (busy_slots (start + slot.duration) (number + 1) slots)
    (record { start = start; slot = number } ∷ busy_slots (start + slot.duration) (number + 1) slots)
