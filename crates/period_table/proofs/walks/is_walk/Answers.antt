use Rattle.std.proofs.Common.{◌≡◌, length, sym, ap, ◌∙◌, arith}
use Rattle.platform_file.specs.Platform.{PlatformView, is_master}
use Rattle.period_table.proofs.WalkSteps.{walk_from}
use Rattle.period_table.proofs.walks.is_walk.Goals.{then-to-next-via-then-to-next, then-to-next-via-else-to-next+then-is_master}
use Rattle.period_table.proofs.walks.is_walk.Goals as goal

pub returns-then-link-links-clause-no : goal.returns-then-link-links-clause-no
returns-then-link-links-clause-no c = λ walk.
    let there = (walk_from c.args.timed.now c.args.links.now c.args.end c.loop-k.k (omega (arith, c.loop-k-test.true)) (omega (arith, c.loop-k.auto.k, c.loop-k-test.true)) walk).0 in
    let all : length c.links.result.now ≡ length c.args.timed.now.platform.links = ap length (c.links.ensures ∙ ap (λ (p : PlatformView). p.links) c.platform.ensures) in
    absurd (omega (arith, there, all, c.if-link-links.true))

pub returns-then-to-next-clause-no : goal.returns-then-to-next-clause-no
returns-then-to-next-clause-no c = λ walk.
    let w = walk_from c.args.timed.now c.args.links.now c.args.end c.loop-k.k (omega (arith, c.loop-k-test.true)) (omega (arith, c.loop-k.auto.k, c.loop-k-test.true)) walk in
    elim c.then-to-next.branch [
      | then-to-next-via-then-to-next w2 ↦ absurd (w2.if-to-next.true (c.receiver-to.ensures.value ∙ w.1 ∙ sym c.loop-k.invariant.next))
      | then-to-next-via-else-to-next+then-is_master w2 ↦
          sym w.2 ∙ ap (is_master c.args.timed.now.platform) (sym c.receiver-to.ensures.value) ∙ ap (λ p. is_master p c.receiver-to.result) (sym w2.platform-else-to-next.ensures)
          ∙ sym w2.is_master.ensures ∙ w2.if-is_master.true
    ]
