use Rattle.std.proofs.Common.{nat_eq}
use Rattle.std.specs.List.{list_any}
use Rattle.period_table.specs.Lanes.{lanes_of}
use Rattle.actor_programs.specs.declared.actor.Actor.TheVariants.{Sender}
use Rattle.actor_programs.proofs.Gathered.{gathered_more}
use Rattle.actor_programs.proofs.actor.push_senders.Goals as goal

pub loop-link-preserved : goal.loop-link-preserved
loop-link-preserved c =
    gathered_more Sender (λ link. list_any (λ lane. nat_eq lane.link link) (lanes_of c.args.routes.now))
    c.loop-link.link c.args.out.now c.loop-link.out c.push_sender.new.out c.loop-link.invariant c.in_ok-push_sender.ensures.ok
