use Rattle.std.proofs.Common.{◌≡◌, ◌++◌, map, filter, nat_eq}
use Rattle.std.specs.List.{list_any, range_with_len}
use Rattle.period_table.specs.Lanes.{lanes_of}
use Rattle.actor_programs.specs.declared.actor.Actor.TheVariants.{Sender}
use Rattle.actor_programs.proofs.actor.push_senders.Given as goal

abbrev pub invariant-loop-link : goal.invariant-loop-link
invariant-loop-link l =
    l.out ≡ l.fn.out ++ map Sender (filter (λ link. list_any (λ lane. nat_eq lane.link link) (lanes_of l.routes)) (range_with_len 0 l.link))
