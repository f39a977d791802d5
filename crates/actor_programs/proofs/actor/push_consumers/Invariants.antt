use Rattle.std.proofs.Common.{◌≡◌, ◌++◌, map, filter, nat_eq}
use Rattle.std.specs.List.{list_any, range_with_len}
use Rattle.actor_programs.specs.declared.actor.Actor.TheVariants.{Consumer}
use Rattle.actor_programs.proofs.actor.push_consumers.Given as goal

abbrev pub invariant-loop-node : goal.invariant-loop-node
invariant-loop-node l = l.out ≡ l.fn.out ++ map Consumer (filter (λ node. list_any (λ route. nat_eq route.end node) l.routes) (range_with_len 0 l.node))
