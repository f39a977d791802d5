-- A solution in as many ticks as make its values whole.
use Rattle.std.proofs.Common.{◌≡◌, ℕ, ◌*◌, ◌/◌, ◌%◌, ◌<◌, ◌≤◌, pos, ◌*ℤ◌, List, length, get_or, All, sym, ap, ◌∙◌, arith}
use Prim.Native.Nat.{◌∣◌}
use Rattle.std.proofs.Math.Nat.{mul-div_cancel', mul_assoc, mul_comm}
use Rattle.std.proofs.lemmas.Nat.Gcd.{dvd_of_mod-eq-zero}
use Rattle.std.proofs.lemmas.List.{get_or_default}
use Rattle.std.proofs.lemmas.List.Elements.{All-get_or}
use Rattle.ratio_core.specs.Fraction.{Fraction, whole}
use Rattle.platform_file.specs.Ticks.{TimedView}
use Rattle.schedule_model.specs.declared.schedule.Series.{Series}
use Rattle.linear_program.specs.Programmes.{gain_value}
use Rattle.linear_program.specs.Duality.{IsFeasible}
use Rattle.series_flows.specs.Programmes.{programme_of}
use Rattle.series_flows.specs.Flows.{tasks_in}
use Rattle.series_flows.specs.Points.{IsPoint}
use Rattle.series_flows.proofs.Scaled.{scaled_feasible, scaled_gain}

-- the numbers of tasks are those of the point, in other ticks
in_ticks : (point num den d ticks : ℕ) → point * den ≡ num * d → den ∣ ticks → num * (ticks / den) * d ≡ point * ticks
in_ticks point num den d ticks e h =
    mul_assoc num (ticks / den) d ∙ ap (λ n. num * n) (mul_comm (ticks / den) d) ∙ sym (mul_assoc num d (ticks / den)) ∙ ap (λ n. n * (ticks / den)) (sym e)
    ∙ mul_assoc point den (ticks / den) ∙ ap (λ n. point * n) (mul-div_cancel' den h)

-- a rate of nothing comes to nothing
pub no_tasks : (ticks : ℕ) (value : Fraction) → value ≡ whole 0 → tasks_in ticks value ≡ 0
no_tasks ticks value e = ap (tasks_in ticks) e ∙ nothing (ticks / 1)
  where
    nothing : (n : ℕ) → 0 * n ≡ 0
    nothing n = omega arith

module _ (t : TimedView) (series : Series) (values : List Fraction) (ticks : ℕ) where
  -- the numbers are those of the columns in so many ticks
  abbrev pub AreInTicks : (ℕ → ℕ) → Type 0
  AreInTicks amounts = (j : ℕ) → j < (programme_of t series).columns → amounts j ≡ tasks_in ticks (get_or values j (whole 0))

  -- where no column has more than the ticks, no value has
  pub values_small : (amounts : ℕ → ℕ) → AreInTicks amounts → length values ≡ (programme_of t series).columns →
      ((j : ℕ) → j < (programme_of t series).columns → amounts j ≤ ticks) → All (λ (value : Fraction). tasks_in ticks value ≤ ticks) values
  values_small amounts are one_each small j d l =
      let inside : j < (programme_of t series).columns = rw (sym one_each) l in
      let at_most = small j inside in
      rw (get_or_default values j d (whole 0) l) (rw (are j inside) at at_most)

  module _ (point : IsPoint t series values) (whole_ones : All (λ (value : Fraction). ticks % value.den ≡ 0) values) (amounts : ℕ → ℕ) (are : AreInTicks amounts) where
    in_point : (j : ℕ) → j < (programme_of t series).columns → amounts j * point.den ≡ point.point j * ticks
    in_point j l =
        let inside : j < length values = rw point.one_each l in
        rw (are j l)
        (in_ticks (point.point j) (get_or values j (whole 0)).num (get_or values j (whole 0)).den point.den ticks (point.values_are j inside)
        (dvd_of_mod-eq-zero (get_or values j (whole 0)).den (All-get_or (λ (value : Fraction). ticks % value.den ≡ 0) values j (whole 0) inside whole_ones)))

    -- the numbers are feasible in the ticks
    pub feasible : IsFeasible (programme_of t series) amounts ticks
    feasible = scaled_feasible point.point amounts point.den ticks point.some (programme_of t series) point.feasible in_point

    -- the numbers gain what the point does
    pub gains : pos point.den *ℤ gain_value (programme_of t series) amounts ≡ pos ticks *ℤ gain_value (programme_of t series) point.point
    gains = scaled_gain point.point amounts point.den ticks point.some (programme_of t series) in_point
