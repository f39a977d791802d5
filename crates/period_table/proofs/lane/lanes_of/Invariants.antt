use Rattle.std.proofs.Common.{◌≡◌, ◌++◌, drop}
use Rattle.period_table.specs.Lanes.{lanes_of}
use Rattle.period_table.proofs.lane.lanes_of.Given as goal

abbrev pub invariant-loop-route : goal.invariant-loop-route
invariant-loop-route l = l.lanes ++ lanes_of (drop l.route-index l.routes) ≡ lanes_of l.routes
