use Rattle.std.proofs.Common.{◌≡◌, ℕ, ◌+◌, ◌++◌, ◌<◌, List, length, drop, get_or, slice_index, sum_by, []}
use Rattle.period_table.specs.Lanes.{LaneAt}
use Rattle.period_table.specs.Cuts.{carried_on, pieces_from}
use Rattle.period_table.proofs.cutting.pieces_of.Given as goal

abbrev pub invariant-loop-lane : goal.invariant-loop-lane
invariant-loop-lane l =
    (before : List LaneAt)
    × (length l.before ≡ 128)
    × (l.number ≡ l.lane-index)
    × ((link : ℕ) → link < 128 → get_or l.before link 0 ≡ carried_on link before)
    × (sum_by (λ lane. lane.count) before + sum_by (λ lane. lane.count) (drop l.lane-index l.lanes) ≡ sum_by (λ lane. lane.count) l.lanes)
    × (l.pieces ++ pieces_from (slice_index l.first) (slice_index l.rooms) l.lane-index before (drop l.lane-index l.lanes) ≡ pieces_from (slice_index l.first) (slice_index l.rooms) 0 [] l.lanes)
