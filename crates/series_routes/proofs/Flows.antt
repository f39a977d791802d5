-- The flows of a solution, one by one.
use Rattle.std.proofs.Common.{◌≡◌, ℕ, ◌<◌, ◌≤◌, List, length, All, sym, ap, subst}
use Rattle.platform_file.specs.Ticks.{TimedView, IsTimed}
use Rattle.schedule_model.specs.Operations.{cost_of}
use Rattle.schedule_model.specs.declared.schedule.Series.{Series}
use Rattle.exact_simplex.specs.Optima.{first_terms}
use Rattle.flow_routes.specs.Flows.{IsFlow}
use Rattle.flow_routes.specs.declared.flow.Flow.{Flow}
use Rattle.ratio_core.specs.Fraction.{Fraction}
use Prim.Native.Nat.{◌∣◌}
use Rattle.series_flows.specs.Programmes.{kinds_of}
use Rattle.series_flows.specs.Flows.{flow_in, use_in, flow_of}
use Rattle.series_flows.specs.Amounts.{AreAmounts}
use Rattle.series_flows.proofs.Terms.{length_terms, term_there}
use Rattle.programme_rows.specs.Listings.{each_where}
use Rattle.series_routes.specs.declared.numbers.PeriodStep.TheVariants.{Costs}
use Rattle.series_routes.specs.Numbers.{goes_over, is_in_use, multiple_of, common_cost}
use Rattle.series_routes.proofs.FlowsKept.{is_flow}
use Rattle.series_routes.proofs.InUse.{same_each, same_use}

-- what holds of each term holds of all
each_term : {A : Type 0} (P : A → Type 0) (f : ℕ → A) (n : ℕ) → ((k : ℕ) → k < n → P (f k)) → All P (first_terms f n)
each_term P f n h k d l = let inside : k < n = rw (length_terms f n) at l in subst P (sym (term_there f d n k inside)) (h k inside)

module _ (t : TimedView) (series : Series) (values : List Fraction) (ticks : ℕ) where
  pub all_long : All (λ (flow : Flow). length flow.amounts ≡ length t.platform.links) (first_terms (flow_of t series values ticks) (kinds_of t series))
  all_long = each_term (λ (flow : Flow). length flow.amounts ≡ length t.platform.links) (flow_of t series values ticks) (kinds_of t series) (λ kind l. length_terms (flow_in t series values ticks kind) (length t.platform.links))

  pub all_flows : IsTimed t → AreAmounts t series (flow_in t series values ticks) (use_in t series values ticks) ticks → All IsFlow (first_terms (flow_of t series values ticks) (kinds_of t series))
  all_flows timed amounts =
      each_term IsFlow (flow_of t series values ticks) (kinds_of t series) (is_flow t timed series (flow_in t series values ticks) (use_in t series values ticks) ticks amounts)

  -- the common cost by flows is that by rates
  pub same_cost : 1 ≤ ticks → All (λ (value : Fraction). value.den ∣ ticks) values →
      multiple_of Costs 1 (each_where (goes_over (first_terms (flow_of t series values ticks) (kinds_of t series))) (cost_of t) (length t.platform.links)) ≡ common_cost t series values
  same_cost some whole = ap (multiple_of Costs 1) (same_each _ (is_in_use t series values) (cost_of t) (length t.platform.links) (same_use t series values ticks some whole))
