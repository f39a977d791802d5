use Rattle.std.proofs.Common.{refl}
use Rattle.schedule_model.specs.declared.schedule.Op.TheVariants.{Send}
use Rattle.period_table.proofs.Steps.{run_more, ends_more}
use Rattle.period_table.proofs.placing.place_sends.Goals as goal

pub loop-left-preserved : goal.loop-left-preserved
loop-left-preserved c = record {
  ends = rw c.from-next.ensures (ends_more _ _ _ _ c.loop-left-test.true c.loop-left.invariant.ends);
  short = c.loop-left.invariant.short;
  placed = run_more (λ s. record { op = Send c.args.link c.args.kind s; lane = c.args.lane }) c.args.lasts c.loop-left.next _ c.args.count c.loop-left.left _ c.loop-left.out.items _ _
      c.loop-left-test.true (rw c.from-next.ensures refl) c.new.ensures c.in_ok-push.ensures.items c.loop-left.invariant.placed;
}
