use Rattle.std.proofs.Common.{◌≡◌, ◌*◌, map, drop}
use Rattle.planner.specs.Scales.{factor_with}
use Rattle.planner.proofs.scaling.factor_of_routes.Given as goal

abbrev pub invariant-loop-route : goal.invariant-loop-route
invariant-loop-route l = factor_with l.common (map (λ route. route.count * l.times) (drop l.route-index l.routes)) ≡ factor_with l.start (map (λ route. route.count * l.times) l.routes)
