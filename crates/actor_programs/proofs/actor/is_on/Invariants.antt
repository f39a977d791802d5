use Rattle.std.proofs.Common.{◌≡◌, drop, nat_eq}
use Rattle.std.specs.List.{list_any}
use Rattle.actor_programs.proofs.actor.is_on.Given as goal

abbrev pub invariant-loop-other : goal.invariant-loop-other
invariant-loop-other l = list_any (λ other. nat_eq other l.link) (drop l.other-index l.links) ≡ list_any (λ other. nat_eq other l.link) l.links
