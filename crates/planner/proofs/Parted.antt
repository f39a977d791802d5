-- The loads of routes are small enough to be split into parts.
use Rattle.std.proofs.Common.{◌≡◌, ℕ, ◌*◌, ◌^◌, ◌<◌, ◌≤◌, List, length, All, arith, inl, inr}
use Rattle.std.proofs.Math.Nat.{mul-le-mul_left}
use Rattle.std.proofs.lemmas.Bool.{cases_lt}
use Rattle.std.proofs.lemmas.List.Elements.{All-weaker}
use Rattle.platform_file.specs.Ticks.{TimedView, IsTimed}
use Rattle.schedule_model.specs.Operations.{cost_of}
use Rattle.schedule_model.specs.declared.schedule.Series.{Series}
use Rattle.flow_routes.specs.Routes.{carried}
use Rattle.flow_routes.specs.declared.flow.Route.{Route}
use Rattle.series_flows.proofs.Bounds.{lasting, some_cost}
use Rattle.series_routes.specs.declared.numbers.Scale.{Scale}
use Rattle.series_routes.specs.Solutions.{IsRouting}
use Rattle.series_routes.proofs.RouteLinks.{carries_none}
use Rattle.series_routes.proofs.Routed.{links_there}
use Rattle.series_routes.proofs.WeightsFit.{load_in_time}

module _ (t : TimedView) (timed : IsTimed t) (series : Series) (scale : Scale) (routes : List Route) (s : IsRouting t series scale routes) where
  inside : All (λ (route : Route). All (λ k. k < length t.platform.links) route.links) routes
  inside = links_there t series scale.ticks routes s.are_routes

  pub few_ticks : scale.ticks ≤ 2 ^ 100
  few_ticks = let more : scale.ticks * 1 ≤ scale.ticks * scale.times = mul-le-mul_left scale.ticks s.some_times in omega (arith, more, s.short)

  pub links_small : All (λ (route : Route). All (λ k. k < 128) route.links) routes
  links_small =
      All-weaker (λ (route : Route). All (λ k. k < length t.platform.links) route.links) (λ (route : Route). All (λ k. k < 128) route.links)
      (λ (route : Route) there. All-weaker (λ k. k < length t.platform.links) (λ k. k < 128) (λ k below. omega (arith, below, timed.platform.few_links)) route.links there) routes inside

  pub in_time : (link : ℕ) → cost_of t link * carried link routes ≤ scale.ticks
  in_time link =
      elim (cases_lt link (length t.platform.links)) [
        | inl there ↦ load_in_time t timed routes scale.ticks s.within link there
        | inr past ↦ rw (carries_none (length t.platform.links) link routes inside past) (nothing (cost_of t link))
      ]
    where
      nothing : (cost : ℕ) → cost * 0 ≤ scale.ticks
      nothing cost = omega arith

  pub small : (link : ℕ) → carried link routes ≤ scale.ticks
  small link =
      elim (cases_lt link (length t.platform.links)) [
        | inl there ↦ lasting (cost_of t link) (carried link routes) scale.ticks (some_cost t timed link there) (in_time link)
        | inr past ↦ let none = carries_none (length t.platform.links) link routes inside past in omega (arith, none)
      ]
