use Rattle.std.proofs.Common.{refl}
use Rattle.period_table.specs.TableSchedules.{compute_at}
use Rattle.period_table.proofs.Steps.{run_more, ends_more}
use Rattle.period_table.proofs.placing.place_computations.Goals as goal

pub loop-left-preserved : goal.loop-left-preserved
loop-left-preserved c = record {
  ends = rw c.from-next.ensures (ends_more _ _ _ _ c.loop-left-test.true c.loop-left.invariant.ends);
  short = c.loop-left.invariant.short;
  placed = run_more (compute_at c.args.node) c.args.lasts c.loop-left.next _ c.args.count c.loop-left.left _ c.loop-left.out.items _ _
      c.loop-left-test.true (rw c.from-next.ensures refl) c.new.ensures c.in_ok-push.ensures.items c.loop-left.invariant.placed;
}
