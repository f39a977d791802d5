use Rattle.std.proofs.Common.{◌≡◌, get_or, sym}
use Rattle.std.proofs.lemmas.Option.{get_or_from_slice_get}
use Rattle.schedule_model.specs.Operations.{cost_of}
use Rattle.planner.proofs.Factors.{next_at}
use Rattle.planner.proofs.scaling.factor_of_part.Goals as goal

pub loop-link-preserved : goal.loop-link-preserved
loop-link-preserved c =
    let links = c.as_slice-link-items.ensures in
    let left = next_at c.args.part.now.edges c.loop-link.link-index 0 (rw links at c.loop-link-test.true) in
    let cost : c.cost.result ≡ cost_of c.args.timed.now (get_or c.args.part.now.edges c.loop-link.link-index 0) = sym (get_or_from_slice_get c.args.timed.now.costs _ _ 0 (rw links at c.cost.ensures.value)) in
    rw (c.gcd-common-in-loop-link.ensures.value, c.from.ensures, cost) (rw left at c.loop-link.invariant)
