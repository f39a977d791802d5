use Rattle.std.proofs.Common.{nat_eq}
use Rattle.std.specs.List.{list_any}
use Rattle.actor_programs.specs.declared.actor.Actor.TheVariants.{Consumer}
use Rattle.actor_programs.proofs.Gathered.{gathered_more}
use Rattle.actor_programs.proofs.actor.push_consumers.Goals as goal

pub loop-node-preserved : goal.loop-node-preserved
loop-node-preserved c =
    gathered_more Consumer (λ node. list_any (λ route. nat_eq route.end node) c.args.routes.now)
    c.loop-node.node c.args.out.now c.loop-node.out c.push_consumer.new.out c.loop-node.invariant c.in_ok-push_consumer.ensures.ok
