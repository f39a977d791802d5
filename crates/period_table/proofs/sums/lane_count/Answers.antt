use Rattle.std.proofs.Common.{◌≡◌, ◌+◌, arith, ℕ}
use Rattle.period_table.proofs.LaneWindows.{lanes_left}
use Rattle.period_table.proofs.sums.lane_count.Goals as goal

pub loop-route-preserved : goal.loop-route-preserved
loop-route-preserved c =
    let left = lanes_left c.args.routes.now c.loop-route.route-index c.route-item.result c.loop-route-test.true c.route-item.is in
    record {
      sum = more c.loop-route.sum c.len.result _ _ _ _ left c.len.ensures c.loop-route.invariant.sum;
      bound = omega (arith, c.loop-route.invariant.bound, c.len.type_inv);
    }
  where
    more : (sum len links whole rest all : ℕ) → whole ≡ links + rest → len ≡ links → sum + whole ≡ all → sum + len + rest ≡ all
    more sum len links whole rest all e f h = omega arith
