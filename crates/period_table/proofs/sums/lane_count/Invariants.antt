use Rattle.std.proofs.Common.{◌≡◌, ◌+◌, ◌*◌, ◌^◌, ◌≤◌, drop, length}
use Rattle.period_table.specs.Lanes.{lanes_of}
use Rattle.period_table.proofs.sums.lane_count.Given as goal

abbrev pub invariant-loop-route : goal.invariant-loop-route
invariant-loop-route l = record {
  sum : l.sum + length (lanes_of (drop l.route-index l.routes)) ≡ length (lanes_of l.routes);
  bound : l.sum ≤ l.route-index * 2 ^ 64;
}
