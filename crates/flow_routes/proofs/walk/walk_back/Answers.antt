use Rattle.std.proofs.Common.{true, length, set, get_or, arith, sym, subst}
use Rattle.std.proofs.lemmas.List.{length-set}
use Rattle.flow_routes.specs.Flows.{LinksExist}
use Rattle.flow_routes.proofs.Walking.{IsWalking, walking_more, unmarked-set}
use Rattle.flow_routes.proofs.walk.walk_back.Goals as goal

pub loop-at-smaller : goal.loop-at-smaller
loop-at-smaller c = unmarked-set c.loop-at.marked c.loop-at.at c.loop-at.invariant.inside c.if-not-marked-at.true

pub loop-at-preserved : goal.loop-at-preserved
loop-at-preserved c =
    subst (λ n. IsWalking c.args.master c.args.links.now c.args.amounts.now c.args.node n c.push.new.self (set c.loop-at.marked c.loop-at.at true) (get_or c.args.links.now c.first_entering-link.result (0, 0)).0) (sym (length-set c.loop-at.marked c.loop-at.at true))
    (subst (λ p. IsWalking c.args.master c.args.links.now c.args.amounts.now c.args.node (length c.loop-at.marked) p (set c.loop-at.marked c.loop-at.at true) (get_or c.args.links.now c.first_entering-link.result (0, 0)).0) (sym c.in_ok-push.ensures.ok)
    (walking_more c.args.master c.args.links.now c.args.amounts.now (λ v. 0) c.args.node (length c.loop-at.marked) c.loop-at.path c.loop-at.marked c.loop-at.at c.first_entering-link.result
    c.loop-at.invariant c.loop-at-test.true c.if-not-marked-at.true c.first_entering-link.ensures c.requires.lengths (subst (LinksExist c.args.links.now) (sym c.loop-at.auto.marked) c.requires.exist) c.requires.kept (omega arith)))
