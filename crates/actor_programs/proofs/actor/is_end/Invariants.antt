use Rattle.std.proofs.Common.{◌≡◌, drop, nat_eq}
use Rattle.std.specs.List.{list_any}
use Rattle.actor_programs.proofs.actor.is_end.Given as goal

abbrev pub invariant-loop-route : goal.invariant-loop-route
invariant-loop-route l = list_any (λ route. nat_eq route.end l.node) (drop l.route-index l.routes) ≡ list_any (λ route. nat_eq route.end l.node) l.routes
