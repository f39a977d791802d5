-- The routes of a series, kind after kind.
use Rattle.std.specs.Prelude.{◌≡◌, ℕ, zero, suc, List, [], ◌++◌, Ok, cond, nat_eq, sum_by}
use Rattle.ratio_core.specs.Fraction.{Fraction}
use Rattle.platform_file.specs.Ticks.{TimedView}
use Rattle.schedule_model.specs.declared.schedule.Series.{Series}
use Rattle.flow_routes.specs.Routes.{AreRoutes}
use Rattle.flow_routes.specs.Rounds.{AreChosen}
use Rattle.flow_routes.specs.declared.flow.Flow.{Flow}
use Rattle.flow_routes.specs.declared.flow.Route.{Route}
use Rattle.series_flows.specs.Programmes.{kinds_of}
use Rattle.series_flows.specs.Flows.{flow_of}
use Rattle.series_routes.specs.declared.numbers.Scale.{Scale}
use Rattle.series_routes.specs.Numbers.{scale_of}

-- how much of a kind the routes bring to their ends
abbrev pub tasks_of_kind : ℕ → List Route → ℕ
tasks_of_kind kind routes = sum_by (λ route. cond (nat_eq route.kind kind) route.count 0) routes

-- the ruled routes of a flow, all of one kind
pub record AreRuledRoutes (flow : Flow) (kind : ℕ) (routes : List Route) : Type 0 where
  pub routed : AreRoutes flow kind routes
  pub chosen : AreChosen flow kind routes

-- some routes of which one fact holds, and behind them some of which another does
pub record AreBehind (Earlier Own : List Route → Type 0) (routes : List Route) : Type 0 where
  pub before : List Route
  pub own : List Route
  pub parts : routes ≡ before ++ own
  pub earlier : Earlier before
  pub here : Own own

-- the ruled routes of the flows of the kinds below a number, kind after kind
abbrev pub AreRoutesBelow : (ℕ → Flow) → ℕ → List Route → Type 0
AreRoutesBelow flow zero routes = routes ≡ []
AreRoutesBelow flow (suc n) routes = AreBehind (AreRoutesBelow flow n) (AreRuledRoutes (flow n) n) routes

-- the numbers are those by which the values are scaled, and the routes the ruled ones of their flows
pub record IsRoutedIn (t : TimedView) (series : Series) (values : List Fraction) (scale : Scale) (routes : List Route) : Type 0 where
  pub scaled : scale_of t series values ≡ Ok scale
  pub routed : AreRoutesBelow (flow_of t series values scale.ticks) (kinds_of t series) routes
