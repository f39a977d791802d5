-- Why a solution's certificate is the best.
use Rattle.std.proofs.Common.{◌≡◌, ℕ, ◌*◌, ℤ, pos, negsuc, ◌*ℤ◌, ◌≤ℤ◌, nat_abs, Some, Ok, refl, sym, ap, ◌∙◌, subst, arith}
use Rattle.std.proofs.lemmas.Int.{ints}
use Rattle.linear_program.specs.Certificates.{CertificateView, IsCertificate}
use Rattle.linear_program.specs.Programmes.{LpView, gain_value}
use Rattle.linear_program.specs.Duality.{priced_sides, IsDualFeasible}
use Rattle.linear_program.specs.declared.certificate.Optimum.{Optimum}
use Rattle.exact_simplex.specs.Optima.{IsOptimal}
use Rattle.platform_file.specs.Ticks.{TimedView}
use Rattle.schedule_model.specs.declared.schedule.Series.{Series}
use Rattle.series_flows.specs.Programmes.{programme_of}
use Rattle.series_flows.specs.Points.{IsPoint}
use Rattle.planner.specs.Plans.{solution_of}
use Rattle.planner.specs.Prices.{IsBestCertificate}
use Rattle.planner.proofs.Rated.{best_rate}

-- the solution's values are those of a feasible point
pub is_point : (t : TimedView) (series : Series) (o : Optimum) → IsOptimal (programme_of t series) o → IsPoint t series o.values
is_point t series o optimal = record {
  one_each = optimal.one_each;
  point = optimal.point;
  den = optimal.den;
  some = optimal.some_den;
  values_are = λ j l. optimal.values j (rw optimal.one_each at l);
  feasible = optimal.feasible;
}

pub is_best : (limit : ℕ) (t : TimedView) (series : Series) (o : Optimum) → solution_of limit t series ≡ Some (Ok o) → IsOptimal (programme_of t series) o → IsBestCertificate limit t series o.certificate
unfolding is_point
is_best limit t series o solved optimal = record {
  solution = o;
  solved = solved;
  own = refl;
  dual = optimal.dual_feasible;
  value = optimal.priced;
  point = is_point t series o optimal;
  gains = optimal.gains;
}

-- a number that is not below 0 is its size
its_size : (z : ℤ) → pos 0 ≤ℤ z → z ≡ pos (nat_abs z)
its_size (pos n) h = omega (arith, ints)
its_size (negsuc n) h = absurd (omega (arith, ints))

-- the numbers of a certificate as sizes
pub dual_in_sizes : (p : LpView) (o : Optimum) → IsCertificate o.certificate → IsOptimal p o → IsDualFeasible p o.certificate.prices (pos (nat_abs o.certificate.scale))
dual_in_sizes p o certificate optimal =
    let scale : o.certificate.scale ≡ pos (nat_abs o.certificate.scale) = let some = certificate.some_scale in its_size o.certificate.scale (omega (arith, ints, some)) in
    subst (λ scale. IsDualFeasible p o.certificate.prices scale) scale optimal.dual_feasible

pub sides_in_sizes : (p : LpView) (o : Optimum) → IsCertificate o.certificate → IsOptimal p o → priced_sides p.rows o.certificate.prices ≤ℤ pos (nat_abs o.certificate.best)
sides_in_sizes p o certificate optimal =
    let size : o.certificate.best ≡ pos (nat_abs o.certificate.best) = its_size o.certificate.best certificate.best_not_negative in
    same_at_most _ _ (optimal.priced ∙ size)
  where
    same_at_most : (a b : ℤ) → a ≡ b → a ≤ℤ b
    same_at_most a b e = omega (arith, ints)

gain_in_sizes : (p : LpView) (o : Optimum) → IsCertificate o.certificate → (optimal : IsOptimal p o) →
    pos (nat_abs o.certificate.scale) *ℤ gain_value p optimal.point ≡ pos (nat_abs o.certificate.best) *ℤ pos optimal.den
gain_in_sizes p o certificate optimal =
    let scale : o.certificate.scale ≡ pos (nat_abs o.certificate.scale) = let some = certificate.some_scale in its_size o.certificate.scale (omega (arith, ints, some)) in
    let best : o.certificate.best ≡ pos (nat_abs o.certificate.best) = its_size o.certificate.best certificate.best_not_negative in
    ap (λ z. z *ℤ gain_value p optimal.point) (sym scale) ∙ optimal.gains ∙ ap (λ z. z *ℤ pos optimal.den) best

-- a table with the rate of every such point has the best rate
pub equal_rates : (t : TimedView) (series : Series) (o : Optimum) → IsCertificate o.certificate → IsOptimal (programme_of t series) o → (tasks period : ℕ) →
    ((p : IsPoint t series o.values) → pos tasks *ℤ pos p.den ≡ gain_value (programme_of t series) p.point *ℤ pos period) → tasks * nat_abs o.certificate.scale ≡ nat_abs o.certificate.best * period
unfolding is_point
equal_rates t series o certificate optimal tasks period rate =
    best_rate (gain_value (programme_of t series) optimal.point) tasks optimal.den period (nat_abs o.certificate.best) (nat_abs o.certificate.scale) optimal.some_den (rate (is_point t series o optimal)) (gain_in_sizes (programme_of t series) o certificate optimal)
