use Rattle.std.proofs.Common.{◌≡◌, map, take}
use Rattle.planner.specs.Scales.{scaled_route}
use Rattle.planner.proofs.scaling.scaled_routes.Given as goal

abbrev pub invariant-loop-route : goal.invariant-loop-route
invariant-loop-route l = l.list ≡ map (scaled_route l.times l.divisor) (take l.route-index l.routes)
