use Rattle.std.proofs.Common.{◌≡◌, ◌+◌, ◌^◌, take, min, sum_by}
use Rattle.period_table.proofs.sums.ticks_within.Given as goal

abbrev pub invariant-loop-slot : goal.invariant-loop-slot
invariant-loop-slot l = l.sum ≡ min (sum_by (λ slot. slot.duration) (take l.slot-index l.slots)) (2 ^ 100 + 1)
