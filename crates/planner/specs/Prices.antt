-- The prices of a platform, and what they are good for.
use Rattle.std.specs.Prelude.{◌≡◌, ℕ, pos, ◌*ℤ◌, Option, Some, option_map, Result, Ok, Err}
use Rattle.platform_file.specs.Ticks.{TimedView}
use Rattle.schedule_model.specs.declared.schedule.Series.{Series}
use Rattle.linear_program.specs.Certificates.{CertificateView}
use Rattle.linear_program.specs.Programmes.{gain_value}
use Rattle.linear_program.specs.Duality.{priced_sides, IsDualFeasible}
use Rattle.linear_program.specs.declared.certificate.Optimum.{Optimum}
use Rattle.planner.specs.declared.fault.PlanFault.{PlanFault}
use Rattle.series_flows.specs.Programmes.{programme_of}
use Rattle.series_flows.specs.Points.{IsPoint}
use Rattle.planner.specs.Plans.{solution_of}

-- the certificate of a solution
abbrev pub certificate_of : Result Optimum PlanFault → Result CertificateView PlanFault
certificate_of (Ok optimum) = Ok optimum.certificate
certificate_of (Err fault) = Err fault

-- the certificate at the end of the run by Bland's rule with so many pivots allowed, or why there is none
abbrev pub prices_of : ℕ → TimedView → Series → Option (Result CertificateView PlanFault)
prices_of limit t series = option_map certificate_of (solution_of limit t series)

-- the certificate is that of the solution at the end of the run; its prices cover every column of the programme, and the solution's values
-- are those of a point that gains all that they allow: best over scale
pub record IsBestCertificate (limit : ℕ) (t : TimedView) (series : Series) (c : CertificateView) : Type 0 where
  pub solution : Optimum
  pub solved : solution_of limit t series ≡ Some (Ok solution)
  pub own : solution.certificate ≡ c
  pub dual : IsDualFeasible (programme_of t series) c.prices c.scale
  pub value : priced_sides (programme_of t series).rows c.prices ≡ c.best
  pub point : IsPoint t series solution.values
  pub gains : c.scale *ℤ gain_value (programme_of t series) point.point ≡ c.best *ℤ pos point.den
