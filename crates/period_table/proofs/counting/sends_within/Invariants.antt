use Rattle.std.proofs.Common.{◌≡◌, ◌-◌, ◌*◌, take, min, sum_by}
use Rattle.period_table.proofs.counting.sends_within.Given as goal

abbrev pub invariant-loop-lane : goal.invariant-loop-lane
invariant-loop-lane l = l.sum ≡ min (sum_by (λ lane. (l.periods - lane.hop) * lane.count) (take l.lane-index l.lanes)) 4000001
