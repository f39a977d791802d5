use Rattle.std.proofs.Common.{◌≡◌, ◌+◌, ◌∙◌, true, false, refl, sym, ap, arith}
use Rattle.std.proofs.lemmas.List.{take_all}
use Rattle.schedule_model.proofs.Prefixes.{not_valid}
use Rattle.schedule_model.proofs.Tallied.{none_noted}
use Rattle.schedule_model.proofs.Verdicts.{few_kinds_of, none_valid, whole_unit_of, operation_breach, one_more_valid, one_more_tallied, few_started, few_received, few_computed, zeros, tallied_is}
use Rattle.schedule_model.proofs.check.check_schedule.Goals as goal

pub loop-op-init : goal.loop-op-init
loop-op-init c =
    let t = c.args.timed.now in
    let whole = whole_unit_of c.args.schedule.now.ticks_per_unit t.unit (sym c.has_whole_unit.ensures ∙ c.if-not-has_whole_unit.false) in (
      refl,
      rw c.new-tally.ensures (none_noted t c.args.series c.args.schedule.now.ticks_per_unit (few_kinds_of t c.args.series c.known.ensures)),
      none_valid t c.args.series c.args.schedule.now whole.0 whole.1,
      c.as_slice-op-items.ensures,
      rw c.new-tally.ensures (zeros 256),
      rw c.new-tally.ensures (zeros 256),
      rw c.new-tally.ensures (omega arith),
    )

pub returns-in-Err-clause-breach : goal.returns-in-Err-clause-breach
returns-in-Err-clause-breach c =
    let broken = rw c.as_slice-op-items.ensures at c.in-Err.ensures in
    rw c.loop-op.invariant.0
    (operation_breach c.args.timed.now c.known.ensures c.args.series c.args.schedule.now c.loop-op.op-index _ (rw c.as_slice-op-items.ensures at c.loop-op-test.true) c.loop-op.tally
    c.loop-op.invariant.1 c.loop-op.invariant.2 c.in-Err.rule broken)

pub returns-in-Err-clause-valid : goal.returns-in-Err-clause-valid
returns-in-Err-clause-valid c = (
  λ bad. let none : false ≡ true = bad in cc,
  λ valid. absurd (not_valid c.args.timed.now c.known.ensures c.args.series c.args.schedule.now _ (returns-in-Err-clause-breach c) valid),
)

pub loop-op-preserved : goal.loop-op-preserved
loop-op-preserved c =
    let t = c.args.timed.now in
    let done = rw c.as_slice-op-items.ensures at c.in_default.ensures in
    let inside = rw c.as_slice-op-items.ensures at c.loop-op-test.true in
    let k = c.loop-op.op-index in (
      ap (λ n. n + 1) c.loop-op.invariant.0,
      rw done.1 (one_more_tallied t c.known.ensures c.args.series c.args.schedule.now k _ inside c.loop-op.tally c.loop-op.invariant.1 c.loop-op.invariant.2 done.0),
      one_more_valid t c.known.ensures c.args.series c.args.schedule.now k _ inside c.loop-op.tally c.loop-op.invariant.1 c.loop-op.invariant.2 done.0,
      c.loop-op.invariant.3,
      rw done.1 (few_started t c.args.schedule.now.ticks_per_unit c.loop-op.tally _ k c.loop-op.invariant.4),
      rw done.1 (few_received t c.args.schedule.now.ticks_per_unit c.loop-op.tally _ k c.loop-op.invariant.5),
      rw done.1 (few_computed t c.args.schedule.now.ticks_per_unit c.loop-op.tally _ k c.loop-op.invariant.6),
    )

pub returns-clause-valid : goal.returns-clause-valid
returns-clause-valid c =
    let over = rw c.as_slice-op-items.ensures at c.loop-op-test.false in
    (λ ok. rw (take_all c.loop-op.op-index c.args.schedule.now.ops over) at c.loop-op.invariant.2, λ valid. refl)

pub returns-clause-count : goal.returns-clause-count
returns-clause-count c =
    let over = rw c.as_slice-op-items.ensures at c.loop-op-test.false in
    c.completed.ensures
    ∙ tallied_is c.args.timed.now c.args.series c.args.schedule.now c.args.schedule.now.ops c.loop-op.tally c.known.ensures (rw (take_all c.loop-op.op-index c.args.schedule.now.ops over) at c.loop-op.invariant.1)
