use Rattle.std.proofs.Common.{[], inl, refl}
use Rattle.plan_text.specs.Reading.Place.{at_header, at_unit, at_period, at_tasks, at_depth, at_rate}
use Rattle.plan_text.proofs.Steps.{stuck_header, stuck_unit, stuck_period, stuck_tasks, stuck_depth, stuck_rate, first_fault, after_header, after_unit, after_period, after_tasks, after_depth, after_rate}
use Rattle.plan_text.proofs.head.read_head.Goals as goal

pub returns-in_default-clause-err : goal.returns-in_default-clause-err
returns-in_default-clause-err c =
    inl (first_fault c.args.timed.now 0 c.args.bytes.now at_header c.args.bytes.now (refl, refl) (stuck_header c.args.timed.now c.args.bytes.now c.in_default.ensures) (λ no. no))

pub returns-in_default-unit_after-clause-err : goal.returns-in_default-unit_after-clause-err
returns-in_default-unit_after-clause-err c =
    let first = after_header c.args.timed.now c.args.bytes.now [] c.in-Some.rest.now c.in-Some.series c.in-Some.ensures in
    inl (first_fault c.args.timed.now 1 c.args.bytes.now (at_unit c.in-Some.series) c.in-Some.rest.now first (stuck_unit c.args.timed.now c.in-Some.rest.now c.in-Some.series c.in_default-unit_after.ensures) (λ no. no))

pub returns-in_default-number_after-clause-err : goal.returns-in_default-number_after-clause-err
returns-in_default-number_after-clause-err c =
    let first = after_header c.args.timed.now c.args.bytes.now [] c.in-Some.rest.now c.in-Some.series c.in-Some.ensures in
    let second = after_unit c.args.timed.now c.args.bytes.now c.in-Some.rest.now c.in-Some-unit_after.rest.now c.in-Some.series c.args.timed.now.unit first c.in-Some-unit_after.ensures in
    inl (first_fault c.args.timed.now 2 c.args.bytes.now (at_period c.in-Some.series) c.in-Some-unit_after.rest.now second (stuck_period c.args.timed.now c.in-Some-unit_after.rest.now c.in-Some.series c.in_default-number_after.ensures) (λ no. no))

pub returns-in_default-number_after-2-clause-err : goal.returns-in_default-number_after-2-clause-err
returns-in_default-number_after-2-clause-err c =
    let first = after_header c.args.timed.now c.args.bytes.now [] c.in-Some.rest.now c.in-Some.series c.in-Some.ensures in
    let second = after_unit c.args.timed.now c.args.bytes.now c.in-Some.rest.now c.in-Some-unit_after.rest.now c.in-Some.series c.args.timed.now.unit first c.in-Some-unit_after.ensures in
    let third = after_period c.args.timed.now c.args.bytes.now c.in-Some-unit_after.rest.now c.in-Some-number_after.rest.now c.in-Some.series c.in-Some-number_after.period second c.in-Some-number_after.ensures in
    inl (first_fault c.args.timed.now 3 c.args.bytes.now (at_tasks c.in-Some.series c.in-Some-number_after.period) c.in-Some-number_after.rest.now third (stuck_tasks c.args.timed.now c.in-Some-number_after.rest.now c.in-Some.series c.in-Some-number_after.period c.in_default-number_after-2.ensures) (λ no. no))

pub returns-in_default-number_after-3-clause-err : goal.returns-in_default-number_after-3-clause-err
returns-in_default-number_after-3-clause-err c =
    let first = after_header c.args.timed.now c.args.bytes.now [] c.in-Some.rest.now c.in-Some.series c.in-Some.ensures in
    let second = after_unit c.args.timed.now c.args.bytes.now c.in-Some.rest.now c.in-Some-unit_after.rest.now c.in-Some.series c.args.timed.now.unit first c.in-Some-unit_after.ensures in
    let third = after_period c.args.timed.now c.args.bytes.now c.in-Some-unit_after.rest.now c.in-Some-number_after.rest.now c.in-Some.series c.in-Some-number_after.period second c.in-Some-number_after.ensures in
    let fourth = after_tasks c.args.timed.now c.args.bytes.now c.in-Some-number_after.rest.now c.in-Some-number_after-2.rest.now c.in-Some.series c.in-Some-number_after.period c.in-Some-number_after-2.tasks third c.in-Some-number_after-2.ensures in
    inl (first_fault c.args.timed.now 4 c.args.bytes.now (at_depth c.in-Some.series c.in-Some-number_after.period c.in-Some-number_after-2.tasks) c.in-Some-number_after-2.rest.now fourth (stuck_depth c.args.timed.now c.in-Some-number_after-2.rest.now c.in-Some.series c.in-Some-number_after.period c.in-Some-number_after-2.tasks c.in_default-number_after-3.ensures) (λ no. no))

pub returns-in_default-rate_after-clause-err : goal.returns-in_default-rate_after-clause-err
returns-in_default-rate_after-clause-err c =
    let first = after_header c.args.timed.now c.args.bytes.now [] c.in-Some.rest.now c.in-Some.series c.in-Some.ensures in
    let second = after_unit c.args.timed.now c.args.bytes.now c.in-Some.rest.now c.in-Some-unit_after.rest.now c.in-Some.series c.args.timed.now.unit first c.in-Some-unit_after.ensures in
    let third = after_period c.args.timed.now c.args.bytes.now c.in-Some-unit_after.rest.now c.in-Some-number_after.rest.now c.in-Some.series c.in-Some-number_after.period second c.in-Some-number_after.ensures in
    let fourth = after_tasks c.args.timed.now c.args.bytes.now c.in-Some-number_after.rest.now c.in-Some-number_after-2.rest.now c.in-Some.series c.in-Some-number_after.period c.in-Some-number_after-2.tasks third c.in-Some-number_after-2.ensures in
    let fifth = after_depth c.args.timed.now c.args.bytes.now c.in-Some-number_after-2.rest.now c.in-Some-number_after-3.rest.now c.in-Some.series c.in-Some-number_after.period c.in-Some-number_after-2.tasks c.in-Some-number_after-3.depth fourth c.in-Some-number_after-3.ensures in
    inl (first_fault c.args.timed.now 5 c.args.bytes.now (at_rate c.in-Some.series c.in-Some-number_after.period c.in-Some-number_after-2.tasks c.in-Some-number_after-3.depth) c.in-Some-number_after-3.rest.now fifth (stuck_rate c.args.timed.now c.in-Some-number_after-3.rest.now c.in-Some.series c.in-Some-number_after.period c.in-Some-number_after-2.tasks c.in-Some-number_after-3.depth c.in_default-rate_after.ensures) (λ no. no))

pub returns-clause-ok : goal.returns-clause-ok
returns-clause-ok c =
    let first = after_header c.args.timed.now c.args.bytes.now [] c.in-Some.rest.now c.in-Some.series c.in-Some.ensures in
    let second = after_unit c.args.timed.now c.args.bytes.now c.in-Some.rest.now c.in-Some-unit_after.rest.now c.in-Some.series c.args.timed.now.unit first c.in-Some-unit_after.ensures in
    let third = after_period c.args.timed.now c.args.bytes.now c.in-Some-unit_after.rest.now c.in-Some-number_after.rest.now c.in-Some.series c.in-Some-number_after.period second c.in-Some-number_after.ensures in
    let fourth = after_tasks c.args.timed.now c.args.bytes.now c.in-Some-number_after.rest.now c.in-Some-number_after-2.rest.now c.in-Some.series c.in-Some-number_after.period c.in-Some-number_after-2.tasks third c.in-Some-number_after-2.ensures in
    let fifth = after_depth c.args.timed.now c.args.bytes.now c.in-Some-number_after-2.rest.now c.in-Some-number_after-3.rest.now c.in-Some.series c.in-Some-number_after.period c.in-Some-number_after-2.tasks c.in-Some-number_after-3.depth fourth c.in-Some-number_after-3.ensures in
    after_rate c.args.timed.now c.args.bytes.now c.in-Some-number_after-3.rest.now c.in-Some-rate_after.rest.now c.in-Some.series c.in-Some-number_after.period c.in-Some-number_after-2.tasks c.in-Some-number_after-3.depth (record { num = c.in-Some-rate_after.num; den = c.in-Some-rate_after.den }) fifth c.in-Some-rate_after.ensures
