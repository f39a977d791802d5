-- A solution: values of the columns that keep to every row.
use Rattle.std.specs.Prelude.{◌≡◌, ℕ, ◌*◌, ◌<◌, ◌≤◌, List, length, slice_index_or}
use Rattle.ratio_core.specs.Fraction.{Fraction, whole}
use Rattle.platform_file.specs.Ticks.{TimedView}
use Rattle.schedule_model.specs.declared.schedule.Series.{Series}
use Rattle.linear_program.specs.Duality.{IsFeasible}
use Rattle.series_flows.specs.Programmes.{programme_of}

-- one value for each column, which is that of a feasible point over its denominator
pub record IsPoint (t : TimedView) (series : Series) (values : List Fraction) : Type 0 where
  pub one_each : length values ≡ (programme_of t series).columns
  pub point : ℕ → ℕ
  pub den : ℕ
  pub some : 1 ≤ den
  pub values_are : (j : ℕ) → j < length values → point j * (slice_index_or values j (whole 0)).den ≡ (slice_index_or values j (whole 0)).num * den
  pub feasible : IsFeasible (programme_of t series) point den
