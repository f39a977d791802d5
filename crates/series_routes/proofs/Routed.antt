-- The routes of a solution leave every port, processor and target what it needs.
use Rattle.std.proofs.Common.{◌≡◌, ℕ, zero, suc, ◌+◌, ◌*◌, ◌%◌, ◌^◌, ◌<◌, ◌≤◌, false, cond, nat_eq, List, [], ◌∷◌, length, All, sum_by, refl, sym, ap, ◌∙◌, arith, inl, inr}
use Prim.Native.Nat.{◌∣◌}
use Rattle.std.proofs.Math.Nat.{mul-le-mul_right}
use Rattle.std.proofs.lemmas.Nat.Gcd.{mod-eq-zero_of_dvd}
use Rattle.std.proofs.lemmas.Bool.{cases_lt}
use Rattle.std.proofs.lemmas.Bool.Decides.{nat_tests}
use Rattle.std.proofs.lemmas.List.Elements.{All-head, All-tail, All-cons, All-nil, All-weaker}
use Rattle.std.proofs.lemmas.List.Sums.{sum_by-cons}
use Rattle.ratio_core.specs.Fraction.{Fraction}
use Rattle.platform_file.specs.Ticks.{TimedView, IsTimed}
use Rattle.schedule_model.specs.Operations.{cost_of, time_of}
use Rattle.schedule_model.specs.declared.schedule.Series.{Series}
use Rattle.schedule_model.specs.declared.schedule.Series.TheVariants.{Tasking, Scatter}
use Rattle.flow_routes.specs.Routes.{carried, brought}
use Rattle.flow_routes.specs.declared.flow.Route.{Route}
use Rattle.period_table.specs.Tables.{IsWalk}
use Rattle.programme_rows.specs.Listings.{total_below}
use Rattle.programme_rows.proofs.Listings.{each_of}
use Rattle.series_flows.specs.Programmes.{kinds_of}
use Rattle.series_flows.specs.Flows.{flow_in, use_in, flow_of}
use Rattle.series_flows.specs.Amounts.{over_kinds, AreAmounts}
use Rattle.series_routes.specs.declared.numbers.Scale.{Scale}
use Rattle.series_routes.specs.Numbers.{is_in_use, costs_in_use}
use Rattle.series_routes.specs.Routings.{tasks_of_kind, AreRoutesBelow}
use Rattle.series_routes.specs.Solutions.{IsRouteOf, AreUsed, IsRouting}
use Rattle.series_routes.proofs.InUse.{in_use}
use Rattle.series_routes.proofs.RouteLinks.{carries_none}
use Rattle.series_routes.proofs.Totals.{total_within, total_times}
use Rattle.series_routes.proofs.WeightsFit.{are_within}
use Rattle.series_routes.proofs.Joined.{few_used, all_routes, all_few, all_counts, all_carried, all_tasks, all_brought_to}

-- the links of a walk exist
pub walk_links : (t : TimedView) (links : List ℕ) (end : ℕ) → IsWalk t links end → All (λ k. k < length t.platform.links) links
walk_links t [] end walk = All-nil (λ k. k < length t.platform.links)
walk_links t (link ∷ links) end walk = All-cons (λ k. k < length t.platform.links) link links walk.0 (walk_links t links end walk.3)

pub links_there : (t : TimedView) (series : Series) (ticks : ℕ) (routes : List Route) → All (IsRouteOf t series ticks) routes → All (λ (route : Route). All (λ k. k < length t.platform.links) route.links) routes
links_there t series ticks routes are =
    All-weaker (IsRouteOf t series ticks) (λ (route : Route). All (λ k. k < length t.platform.links) route.links) (λ (route : Route) (r : IsRouteOf t series ticks route). walk_links t route.links route.end r.walk) routes are

none_brought : (n node : ℕ) (routes : List Route) → All (λ (route : Route). route.end < n) routes → n ≤ node → brought node routes ≡ 0
none_brought n node [] inside past = refl
none_brought n node (route ∷ routes) inside past =
    let here = All-head (λ (r : Route). r.end < n) route routes inside in
    let other : nat_eq route.end node ≡ false = grind (arith, nat_tests) in
    nothing _ _ _ (sum_by-cons (λ (r : Route). cond (nat_eq r.end node) r.count 0) route routes) (rw other refl) (none_brought n node routes (All-tail (λ (r : Route). r.end < n) route routes inside) past)
  where
    nothing : (a v b : ℕ) → a ≡ v + b → v ≡ 0 → b ≡ 0 → a ≡ 0
    nothing a v b e f g = omega arith

only_one : (n : ℕ) (f : ℕ → ℕ) → n ≡ 1 → total_below n f ≡ f 0
only_one zero f e = absurd (omega (arith, e))
only_one (suc zero) f e = omega arith
only_one (suc (suc n)) f e = absurd (omega (arith, e))

module _ (t : TimedView) (timed : IsTimed t) (series : Series) (values : List Fraction) (scale : Scale) (routes : List Route)
    (amounts : AreAmounts t series (flow_in t series values scale.ticks) (use_in t series values scale.ticks) scale.ticks)
    (routed : AreRoutesBelow (flow_of t series values scale.ticks) (kinds_of t series) routes)
    (some_ticks : 1 ≤ scale.ticks) (some_times : 1 ≤ scale.times) (short : scale.ticks * scale.times ≤ 2 ^ 100)
    (whole_ones : All (λ (value : Fraction). value.den ∣ scale.ticks) values) (costs : All (λ n. n ∣ scale.times) (costs_in_use t series values)) where
  abbrev ticks : ℕ
  ticks = scale.ticks

  abbrev flow : ℕ → ℕ → ℕ
  flow = flow_in t series values scale.ticks

  abbrev uses : ℕ → ℕ → ℕ
  uses = use_in t series values scale.ticks

  abbrev nodes : ℕ
  nodes = length t.platform.nodes

  abbrev kinds : ℕ
  kinds = kinds_of t series

  all_kinds : kinds ≤ kinds
  all_kinds = omega arith

  are_all : All (IsRouteOf t series ticks) routes
  are_all = all_routes t timed series flow uses ticks amounts kinds all_kinds routes routed

  within : (link : ℕ) → link < length t.platform.links → carried link routes ≤ over_kinds kinds flow link
  within = all_carried t timed series flow uses ticks amounts kinds all_kinds routes routed

  tasks_are : (kind : ℕ) → kind < kinds → tasks_of_kind kind routes ≡ total_below nodes (uses kind)
  tasks_are = all_tasks t timed series flow uses ticks amounts kinds all_kinds routes routed

  few_routes : length routes ≤ 1280
  few_routes =
      let most = all_few t timed series flow uses ticks amounts kinds all_kinds routes routed in
      let eight : kinds * 160 ≤ 8 * 160 = mul-le-mul_right 160 amounts.few_kinds in
      omega (arith, most, eight)

  few_counts : sum_by (λ (route : Route). route.count) routes ≤ 256 * ticks
  few_counts =
      let most = all_counts t timed series flow uses ticks amounts kinds all_kinds routes routed in
      let eight : kinds * (32 * ticks) ≤ 8 * (32 * ticks) = mul-le-mul_right (32 * ticks) amounts.few_kinds in
      omega (arith, most, eight)

  pub first_tasks : tasks_of_kind 0 routes ≡ total_below nodes (uses 0)
  first_tasks = tasks_are 0 amounts.some_kind

  few_tasks : tasks_of_kind 0 routes ≤ 32 * ticks
  few_tasks = let most = few_used t timed series flow uses ticks amounts 0 amounts.some_kind in omega (arith, most, first_tasks)

  slow : tasks_of_kind 0 routes * t.unit ≤ 64000000 * ticks
  slow =
      let most = total_within nodes (λ node. uses 0 node * t.unit) (2000000 * ticks) (λ node l. amounts.slow 0 node amounts.some_kind l) in
      let few : nodes * (2000000 * ticks) ≤ 32 * (2000000 * ticks) = mul-le-mul_right (2000000 * ticks) timed.platform.few_nodes in
      let all : tasks_of_kind 0 routes * t.unit ≡ total_below nodes (λ node. uses 0 node * t.unit) = ap (λ m. m * t.unit) first_tasks ∙ sym (total_times nodes (uses 0) t.unit) in
      omega (arith, most, few, all)

  ends_there : All (λ (route : Route). route.end < nodes) routes
  ends_there = All-weaker (IsRouteOf t series ticks) (λ (route : Route). route.end < nodes) (λ (route : Route) (r : IsRouteOf t series ticks route). r.inside) routes are_all

  in_time : kinds ≡ 1 → ((node : ℕ) → node < nodes → uses 0 node * time_of t node ≤ ticks) → (node : ℕ) → brought node routes * time_of t node ≤ ticks
  in_time one processors node =
      elim (cases_lt node nodes) [
        | inl there ↦
            let all = all_brought_to t timed series flow uses ticks amounts kinds all_kinds routes routed node there in
            let only : total_below kinds (λ kind. uses kind node) ≡ uses 0 node = only_one kinds (λ kind. uses kind node) one in
            rw (all ∙ only) (processors node there)
        | inr past ↦ rw (none_brought nodes node routes ends_there past) (nothing (time_of t node))
      ]
    where
      nothing : (time : ℕ) → 0 * time ≤ ticks
      nothing time = omega arith

  whole : (link : ℕ) → 1 ≤ carried link routes → scale.times % cost_of t link ≡ 0
  whole link carries =
      elim (cases_lt link (length t.platform.links)) [
        | inl there ↦
            let most = within link there in
            let listed = in_use t series values ticks some_ticks whole_ones link (omega (arith, carries, most)) in
            mod-eq-zero_of_dvd (cost_of t link) (each_of (λ n. n ∣ scale.times) (is_in_use t series values) (cost_of t) (length t.platform.links) costs link there listed)
        | inr past ↦ let none = carries_none (length t.platform.links) link routes (links_there t series ticks routes are_all) past in absurd (omega (arith, none, carries))
      ]

  pub is_routing : AreUsed t series ticks routes → IsRouting t series scale routes
  is_routing used = record {
    some_ticks = some_ticks;
    some_times = some_times;
    short = short;
    are_routes = are_all;
    few_routes = few_routes;
    few_counts = few_counts;
    few_tasks = few_tasks;
    slow = slow;
    used = used;
    within = are_within t series flow uses ticks amounts routes within;
    whole = whole;
  }

-- each node has time for its tasks, and each target gets as many messages as the first one
pub are_used : (t : TimedView) (timed : IsTimed t) (series : Series) (values : List Fraction) (scale : Scale) (routes : List Route)
    → AreAmounts t series (flow_in t series values scale.ticks) (use_in t series values scale.ticks) scale.ticks
    → AreRoutesBelow (flow_of t series values scale.ticks) (kinds_of t series) routes → 1 ≤ scale.ticks → 1 ≤ scale.times → scale.ticks * scale.times ≤ 2 ^ 100
    → All (λ (value : Fraction). value.den ∣ scale.ticks) values → All (λ n. n ∣ scale.times) (costs_in_use t series values) → AreUsed t series scale.ticks routes
are_used t timed Tasking values scale routes amounts routed some_ticks some_times short whole_ones costs =
    in_time t timed Tasking values scale routes amounts routed some_ticks some_times short whole_ones costs refl amounts.used
are_used t timed Scatter values scale routes amounts routed some_ticks some_times short whole_ones costs = (
  amounts.some_kind,
  λ kind known.
      first_tasks t timed Scatter values scale routes amounts routed some_ticks some_times short whole_ones costs
      ∙ sym (amounts.used kind known) ∙ sym (tasks_are t timed Scatter values scale routes amounts routed some_ticks some_times short whole_ones costs kind known),
)
