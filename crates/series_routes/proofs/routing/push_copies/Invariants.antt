use Rattle.std.proofs.Common.{◌≡◌, ◌++◌, take}
use Rattle.series_routes.proofs.routing.push_copies.Given as goal

abbrev pub invariant-loop-route : goal.invariant-loop-route
invariant-loop-route l = l.routes ≡ l.initial.routes ++ take l.route-index l.own
