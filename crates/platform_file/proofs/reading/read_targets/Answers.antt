use Rattle.std.proofs.Common.{nat_eq, sym}
use Rattle.platform_file.specs.Platform.{IsTarget}
use Rattle.platform_file.specs.Reading.{target_in}
use Rattle.platform_file.proofs.Growing.{one_more}
use Rattle.platform_file.proofs.reading.read_targets.Goals as goal

pub loop-name-preserved : goal.loop-name-preserved
loop-name-preserved c =
    let read = rw c.as_slice.ensures at (sym c.in_ok-target.ensures.value) in
    let fresh = rw c.as_slice.ensures at c.in_ok-target.ensures.fresh in
    rw c.in_ok-push.ensures.ok (one_more (target_in c.args.nodes.now c.args.master) (λ name. name.now) c.args.names.now (IsTarget c.args.nodes.now c.args.master) nat_eq c.loop-name.name-index c.loop-name.targets _ c.in_ok-target.target c.loop-name-test.true read c.in_ok-target.ensures.target fresh c.loop-name.invariant)
