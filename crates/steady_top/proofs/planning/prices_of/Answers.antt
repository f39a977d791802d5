use Rattle.std.proofs.Common.{◌≡◌, string_bytes, ap}
use Rattle.planner.specs.declared.fault.PlanFault.TheVariants as plans
use Rattle.steady_top.specs.Faults.{refusal_of}
use Rattle.steady_top.specs.Outcomes.{priced, certificate_for}
use Rattle.steady_top.specs.Planned.{IsBestPrices}
use Rattle.steady_top.proofs.Works.{planner_refuses, of_error}
use Rattle.steady_top.proofs.planning.prices_of.Goals as goal

pub returns-in_err-certificate : goal.returns-in_err-certificate
returns-in_err-certificate c =
    of_error (λ text. IsBestPrices c.args.pivots c.args.timed.now c.args.series (string_bytes text)) c.from_residual.result c.from_residual.ensures.0 c.from_residual.ensures.1
    (λ e is. planner_refuses (certificate_for c.args.pivots c.args.timed.now c.args.series) c.in_err-certificate.field-0.0 (refusal_of e)
    (λ some. ap (priced c.args.series) (c.in_err-certificate.ensures.exact (λ same. some (let error : c.in_err-certificate.field-0.0 ≡ plans.NoMemory = cc in error)))) is)
