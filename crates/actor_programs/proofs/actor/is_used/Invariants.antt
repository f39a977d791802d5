use Rattle.std.proofs.Common.{◌≡◌, drop, nat_eq}
use Rattle.std.specs.List.{list_any}
use Rattle.period_table.specs.Lanes.{lanes_of}
use Rattle.actor_programs.proofs.actor.is_used.Given as goal

abbrev pub invariant-loop-route : goal.invariant-loop-route
invariant-loop-route l = list_any (λ lane. nat_eq lane.link l.link) (lanes_of (drop l.route-index l.routes)) ≡ list_any (λ lane. nat_eq lane.link l.link) (lanes_of l.routes)
