use Rattle.std.proofs.Common.{rules, ◌≡◌, ◌*◌, ◌≤◌, nat_abs}
use Rattle.schedule_model.specs.Throughput.{IsUpperRate}
use Rattle.linear_program.specs.Certificates.{IsCertificate}
use Rattle.exact_simplex.specs.Optima.{IsOptimal}
use Rattle.series_flows.specs.Programmes.{programme_of}
use Rattle.planner.proofs.Certified.{equal_rates, dual_in_sizes, sides_in_sizes}
use Rattle.planner.proofs.Rated.{upper_of_equal}
use Rattle.planner.proofs.planning.plan.Goals as goal

pub returns-clause-best : goal.returns-clause-best
returns-clause-best c =
    let t = c.args.timed.now in
    let series = c.args.series in
    let o = c.in_ok-optimum.optimum in
    let table = c.in_ok-table.table in
    let optimal : IsOptimal (programme_of t series) o = search rules in
    let certificate : IsCertificate o.certificate = search rules in
    let upper : IsUpperRate t series (nat_abs o.certificate.best * t.unit) (nat_abs o.certificate.scale) =
    c.prices_bound_rates.ensures.rates t series o.certificate.prices (nat_abs o.certificate.scale) (nat_abs o.certificate.best) c.known.ensures c.in_ok-optimum.ensures.targets
    (dual_in_sizes (programme_of t series) o certificate optimal) (sides_in_sizes (programme_of t series) o certificate optimal) in
    let equal : table.tasks * nat_abs o.certificate.scale ≡ nat_abs o.certificate.best * table.period = equal_rates t series o certificate optimal table.tasks table.period (rw c.as_slice.ensures at c.in_ok-table.ensures.rate) in
    let lasts : 1 ≤ table.period = c.fitting_tables_hold.ensures.lasts t series table c.in_ok-table.ensures.fits in
    record {
      fits = c.in_ok-table.ensures.fits;
      upper = upper_of_equal t series (nat_abs o.certificate.best) (nat_abs o.certificate.scale) table.tasks table.period t.unit lasts equal upper;
      valid = c.in_ok-table.ensures.valid;
      completes = c.in_ok-table.ensures.completes;
    }
