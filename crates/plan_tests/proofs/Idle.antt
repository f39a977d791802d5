-- No rate and no flow keep to every row.
use Rattle.std.proofs.Common.{◌≡◌, ℕ, ◌*◌, ℤ, pos, ◌*ℤ◌, ◌≤ℤ◌, ◌⊎◌, List, length, All, ◌∙◌, arith, inl, inr}
use Rattle.std.proofs.Math.IntN.{*ℤ_comm}
use Rattle.std.proofs.lemmas.Int.{ints}
use Rattle.std.proofs.lemmas.List.Elements.{All-weaker, All-get_or}
use Rattle.ratio_core.specs.Fraction.{Fraction, whole}
use Rattle.platform_file.specs.Ticks.{TimedView}
use Rattle.linear_program.specs.Programmes.{RowView, LpView, IsRow, IsLp, cell_at, row_value}
use Rattle.linear_program.specs.Duality.{IsFeasible}
use Rattle.linear_program.proofs.Sums.{zero_sum}
use Rattle.tasking_program.specs.Columns.{columns_of}
use Rattle.tasking_program.specs.Programme.{tasking_programme}
use Rattle.schedule_model.specs.declared.schedule.Series.TheVariants.{Tasking}
use Rattle.series_flows.specs.Points.{IsPoint}

idle_is_feasible : (p : LpView) → IsLp p → IsFeasible p (λ j. 0) 1
idle_is_feasible p lp = All-weaker (IsRow p.columns) (λ (row : RowView). row_value p.columns row (λ j. 0) ≤ℤ (row.rhs *ℤ pos 1)) each p.rows lp.rows
  where
    nothing : (z : ℤ) → z *ℤ pos 0 ≡ pos 0
    nothing z = *ℤ_comm z (pos 0) ∙ none z
      where
        none : (z : ℤ) → pos 0 *ℤ z ≡ pos 0
        none z = omega (arith, ints)

    bounded : (value side : ℤ) → value ≡ pos 0 → (side ≡ pos 0) ⊎ (side ≡ pos 1) → value ≤ℤ (side *ℤ pos 1)
    bounded value side e (inl f) = rw (e, f) (omega (arith, ints))
    bounded value side e (inr f) = rw (e, f) (omega (arith, ints))

    each : (row : RowView) → IsRow p.columns row → row_value p.columns row (λ j. 0) ≤ℤ (row.rhs *ℤ pos 1)
    each row is = bounded (row_value p.columns row (λ j. 0)) row.rhs (zero_sum p.columns (λ j. cell_at row.cells j *ℤ pos 0) (λ j l. nothing (cell_at row.cells j))) is.side

pub idle_is_point : (t : TimedView) → IsLp (tasking_programme t) → (values : List Fraction) → length values ≡ length (columns_of t) → All (λ (value : Fraction). value.num ≡ 0) values → IsPoint t Tasking values
idle_is_point t lp values one_each idle = record {
  one_each = one_each;
  point = λ j. 0;
  den = 1;
  some = omega arith;
  values_are = λ j l. none _ _ (All-get_or (λ (value : Fraction). value.num ≡ 0) values j (whole 0) l idle);
  feasible = idle_is_feasible (tasking_programme t) lp;
}
  where
    none : (den num : ℕ) → num ≡ 0 → 0 * den ≡ num * 1
    none den num e = omega (arith, e)
