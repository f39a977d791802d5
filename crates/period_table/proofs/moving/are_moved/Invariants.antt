use Rattle.std.proofs.Common.{◌≡◌, ℕ, ◌-◌, ◌<◌, length}
use Rattle.period_table.specs.Lanes.{lanes_of, lane_at}
use Rattle.period_table.specs.Tables.{moved_over}
use Rattle.period_table.proofs.moving.are_moved.Given as goal

abbrev pub invariant-loop-first : goal.invariant-loop-first
invariant-loop-first l = (lane : ℕ) → lane < l.first → lane < length (lanes_of l.routes) → moved_over lane l.slots ≡ (lane_at (lanes_of l.routes) lane).count

abbrev pub decreases-loop-first : goal.decreases-loop-first
decreases-loop-first l = l.lanes - l.first
