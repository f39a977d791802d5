use Rattle.std.proofs.Common.{arith}
use Rattle.period_table.proofs.LaneLists.{within_longest}
use Rattle.period_table.proofs.lane.lanes_of.Goals as goal

pub push_lanes-requires : goal.push_lanes-requires
push_lanes-requires c =
    let most = within_longest c.args.routes.now c.loop-route.route-index c.route-item.result c.loop-route-test.true in
    rw c.route-item.is (omega (arith, most, c.requires))
