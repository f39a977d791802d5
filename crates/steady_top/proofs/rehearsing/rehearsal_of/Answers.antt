use Rattle.std.proofs.Common.{ap}
use Rattle.steady_top.specs.Faults.{refusal_of}
use Rattle.steady_top.specs.Outcomes.{rehearsed, rehearse_of_bytes}
use Rattle.steady_top.specs.Planned.{IsBestRehearsal}
use Rattle.steady_top.proofs.Works.{planner_refuses, of_error, both_ways, unplanned_is_fault, unrun_is_fault, run_is_rehearsal}
use Rattle.steady_top.proofs.rehearsing.rehearsal_of.Goals as goal

pub returns-in_err-plan : goal.returns-in_err-plan
returns-in_err-plan c =
    let outcome = rehearse_of_bytes c.args.pivots c.args.size c.args.seed c.args.timed.now c.args.bytes.now in
    of_error (λ text. IsBestRehearsal c.args.pivots c.args.size c.args.seed c.args.timed.now c.args.bytes.now text.items) c.from_residual.result c.from_residual.ensures.0 c.from_residual.ensures.1
    (λ e is. unplanned_is_fault c.args.pivots c.args.size c.args.seed c.args.timed.now c.args.bytes.now (refusal_of e)
    (planner_refuses outcome c.in_err-plan.field-0.0 (refusal_of e) (λ some. ap (rehearsed c.args.pivots c.args.size c.args.seed c.args.timed.now c.args.bytes.now) (c.in_err-plan.ensures.fault some)) is))

pub returns : goal.returns
returns c =
    let found = c.in_ok-plan.ensures in
    both_ways c.run_of.result (λ text. run_is_rehearsal c.args.pivots c.args.size c.args.seed c.args.timed.now c.args.bytes.now c.in_ok-plan.plan found.plan found.best text.items)
    (λ e. unrun_is_fault c.args.pivots c.args.size c.args.seed c.args.timed.now c.args.bytes.now c.in_ok-plan.plan found.plan (refusal_of e)) c.run_of.ensures
