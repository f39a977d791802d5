use Rattle.std.proofs.Common.{rules, ◌≡◌, nat_abs, Some, Ok}
use Rattle.linear_program.specs.Certificates.{IsCertificate}
use Rattle.exact_simplex.specs.Optima.{IsOptimal}
use Rattle.series_flows.specs.Programmes.{programme_of}
use Rattle.planner.specs.Plans.{solution_of}
use Rattle.planner.proofs.Certified.{is_best, dual_in_sizes, sides_in_sizes}
use Rattle.planner.proofs.pricing.prices.Goals as goal

pub returns-clause-best : goal.returns-clause-best
returns-clause-best c =
    let t = c.args.timed.now in
    let o = c.in_ok-optimum.optimum in
    let solved : solution_of c.args.limit t c.args.series ≡ Some (Ok o) = search rules in
    let optimal : IsOptimal (programme_of t c.args.series) o = search rules in
    is_best c.args.limit t c.args.series o solved optimal

pub returns-clause-rate : goal.returns-clause-rate
returns-clause-rate c =
    let t = c.args.timed.now in
    let o = c.in_ok-optimum.optimum in
    let optimal : IsOptimal (programme_of t c.args.series) o = search rules in
    let certificate : IsCertificate o.certificate = search rules in
    c.prices_bound_rates.ensures.rates t c.args.series o.certificate.prices (nat_abs o.certificate.scale) (nat_abs o.certificate.best) c.known.ensures c.in_ok-optimum.ensures.targets
    (dual_in_sizes (programme_of t c.args.series) o certificate optimal) (sides_in_sizes (programme_of t c.args.series) o certificate optimal)
