use Rattle.std.proofs.Common.{◌≡◌, ℕ, ◌*◌, false, List, ℤ, pos, ◌≤ℤ◌}
use Rattle.platform_file.specs.Ticks.{TimedView, IsTimed}
use Rattle.schedule_model.specs.declared.schedule.Series.{Series}
use Rattle.schedule_model.specs.declared.schedule.Series.TheVariants.{Tasking, Scatter}
use Rattle.schedule_model.specs.Throughput.{IsUpperRate}
use Rattle.linear_program.specs.Duality.{priced_sides, IsDualFeasible, IsBounded}
use Rattle.series_flows.specs.Programmes.{programme_of, lacks_targets}
use Rattle.series_flows.proofs.Targets.{some_target}
use Rattle.series_flows.proofs.programme.prices_bound_rates.Goals as goal

pub returns-clause-bounded : goal.returns-clause-bounded
returns-clause-bounded c = by_series
  where
    by_series : (t : TimedView) (series : Series) → IsTimed t → lacks_targets t series ≡ false → IsBounded (programme_of t series)
    by_series t Tasking timed some = c.programmes_are_bounded.ensures t timed
    by_series t Scatter timed some = c.programmes_are_bounded-2.ensures t timed (some_target t some)

pub returns-clause-rates : goal.returns-clause-rates
returns-clause-rates c = by_series
  where
    by_series : (t : TimedView) (series : Series) (prices : List ℤ) (scale best : ℕ) → IsTimed t → lacks_targets t series ≡ false → IsDualFeasible (programme_of t series) prices (pos scale) →
        priced_sides (programme_of t series).rows prices ≤ℤ pos best → IsUpperRate t series (best * t.unit) scale
    by_series t Tasking prices scale best timed some dual sides = c.prices_bound_rates.ensures t prices scale best timed dual sides
    by_series t Scatter prices scale best timed some dual sides = c.prices_bound_rates-2.ensures t prices scale best timed (some_target t some) dual sides
