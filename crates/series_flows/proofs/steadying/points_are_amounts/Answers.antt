use Rattle.std.proofs.Common.{◌≡◌, ℕ, ◌%◌, ◌≤◌, ◌*ℤ◌, All, List, false, length, pos}
use Rattle.ratio_core.specs.Fraction.{Fraction}
use Rattle.platform_file.specs.Ticks.{TimedView, IsTimed}
use Rattle.schedule_model.specs.declared.schedule.Series.{Series}
use Rattle.schedule_model.specs.declared.schedule.Series.TheVariants.{Tasking, Scatter}
use Rattle.linear_program.specs.Programmes.{gain_value}
use Rattle.programme_rows.specs.Listings.{total_below}
use Rattle.series_flows.specs.Programmes.{programme_of, lacks_targets}
use Rattle.series_flows.specs.Flows.{tasks_in, flow_in, use_in}
use Rattle.series_flows.specs.Points.{IsPoint}
use Rattle.series_flows.specs.Amounts.{AreAmounts}
use Rattle.series_flows.proofs.Targets.{some_target}
use Rattle.series_flows.proofs.TaskAmounts as task
use Rattle.series_flows.proofs.MessageAmounts as message
use Rattle.series_flows.proofs.steadying.points_are_amounts.Goals as goal

pub returns-clause-amounts : goal.returns-clause-amounts
returns-clause-amounts c = amounts
  where
    amounts : (t : TimedView) (series : Series) (values : List Fraction) (ticks : ℕ) → IsTimed t → lacks_targets t series ≡ false → IsPoint t series values → All (λ (value : Fraction). ticks % value.den ≡ 0) values →
        AreAmounts t series (flow_in t series values ticks) (use_in t series values ticks) ticks
    amounts t Tasking values ticks timed some point whole_ones =
        let looked = c.columns_are_looked_up.ensures t in
        task.are_amounts t values ticks looked timed (c.points_are_steady.ensures.steady t (task.tasks_of t values ticks) ticks (task.in_programme t values ticks looked point whole_ones))
    amounts t Scatter values ticks timed some point whole_ones =
        let looked = c.columns_are_looked_up-2.ensures t in
        message.are_amounts t values ticks looked timed (c.points_are_steady-2.ensures.steady t (message.messages_of t values ticks) ticks (message.in_programme t values ticks looked point whole_ones))
        (some_target t some)

pub returns-clause-small : goal.returns-clause-small
returns-clause-small c = small
  where
    small : (t : TimedView) (series : Series) (values : List Fraction) (ticks : ℕ) → IsTimed t → lacks_targets t series ≡ false → IsPoint t series values → All (λ (value : Fraction). ticks % value.den ≡ 0) values →
        All (λ (value : Fraction). tasks_in ticks value ≤ ticks) values
    small t Tasking values ticks timed some point whole_ones =
        let looked = c.columns_are_looked_up.ensures t in
        task.small t values ticks looked timed (c.points_are_steady.ensures.steady t (task.tasks_of t values ticks) ticks (task.in_programme t values ticks looked point whole_ones)) point.one_each
    small t Scatter values ticks timed some point whole_ones =
        let looked = c.columns_are_looked_up-2.ensures t in
        message.small t values ticks looked timed (c.points_are_steady-2.ensures.steady t (message.messages_of t values ticks) ticks (message.in_programme t values ticks looked point whole_ones))
        (some_target t some) point.one_each

pub returns-clause-gain : goal.returns-clause-gain
returns-clause-gain c = gain
  where
    gain : (t : TimedView) (series : Series) (values : List Fraction) (ticks : ℕ) → IsTimed t → lacks_targets t series ≡ false → (p : IsPoint t series values) → All (λ (value : Fraction). ticks % value.den ≡ 0) values →
        pos p.den *ℤ pos (total_below (length t.platform.nodes) (use_in t series values ticks 0)) ≡ pos ticks *ℤ gain_value (programme_of t series) p.point
    gain t Tasking values ticks timed some point whole_ones =
        task.gain t values ticks (c.columns_are_looked_up.ensures t) point whole_ones (c.points_are_steady.ensures.gain t (task.tasks_of t values ticks))
    gain t Scatter values ticks timed some point whole_ones =
        message.gain t values ticks (c.columns_are_looked_up-2.ensures t) timed (some_target t some) point whole_ones (c.points_are_steady-2.ensures.gain t (message.messages_of t values ticks))
