use Rattle.std.proofs.Common.{◌≡◌, ℕ, ◌+◌, ◌++◌, ◌<◌, ◌≤◌, length, drop, get_or, sum_by}
use Rattle.period_table.specs.Cuts.{slots_from, cut_slots}
use Rattle.period_table.specs.Lanes.{lanes_of}
use Rattle.period_table.proofs.cutting.cut.Given as goal

abbrev pub invariant-loop-part : goal.invariant-loop-part
invariant-loop-part l =
    (before : ℕ → ℕ)
    × (length l.moved ≡ 128)
    × ((link : ℕ) → link < 128 → get_or l.moved link 0 ≡ before link)
    × ((link : ℕ) → before link + sum_by (λ part. part.duration) (drop l.part-index l.parts) ≤ sum_by (λ part. part.duration) l.parts)
    × (l.slots ++ slots_from l.timed (lanes_of l.routes) before (drop l.part-index l.parts) ≡ cut_slots l.timed (lanes_of l.routes) l.parts)
