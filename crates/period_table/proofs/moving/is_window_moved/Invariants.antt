use Rattle.std.proofs.Common.{◌≡◌, ℕ, ◌+◌, ◌<◌, length, drop, get_or}
use Rattle.period_table.specs.Lanes.{lanes_of, lane_at}
use Rattle.period_table.proofs.moving.is_window_moved.Given as goal

abbrev pub invariant-loop-route : goal.invariant-loop-route
invariant-loop-route l = record {
  lane : l.lane + length (lanes_of (drop l.route-index l.routes)) ≡ length (lanes_of l.routes);
  rest : (n : ℕ) → lane_at (lanes_of (drop l.route-index l.routes)) n ≡ lane_at (lanes_of l.routes) (l.lane + n);
  moved : (k : ℕ) → k < 512 → l.first + k < l.lane → get_or l.moved k 0 ≡ (lane_at (lanes_of l.routes) (l.first + k)).count;
}
