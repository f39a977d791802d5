use Rattle.std.proofs.Common.{rules, string_bytes, ap}
use Rattle.steady_top.specs.Faults.{refusal_of}
use Rattle.steady_top.specs.Outcomes.{planned, plan_of}
use Rattle.steady_top.specs.Planned.{IsBestPlan}
use Rattle.steady_top.proofs.Works.{planner_refuses, of_error}
use Rattle.steady_top.proofs.planning.plan_of.Goals as goal

pub returns-in_err-plan : goal.returns-in_err-plan
returns-in_err-plan c =
    of_error (λ text. IsBestPlan c.args.pivots c.args.timed.now c.args.series (string_bytes text)) c.from_residual.result c.from_residual.ensures.0 c.from_residual.ensures.1
    (λ e is. planner_refuses (plan_of c.args.pivots c.args.timed.now c.args.series) c.in_err-plan.field-0.0 (refusal_of e) (λ some. ap (planned c.args.pivots c.args.timed.now c.args.series) (c.in_err-plan.ensures.fault some)) is)

pub returns : goal.returns
returns c = search rules
