-- The routes of all kinds together.
use Rattle.std.proofs.Common.{◌≡◌, ℕ, zero, suc, ◌+◌, ◌*◌, ◌<◌, ◌≤◌, Bool, true, false, cond, nat_eq, List, [], ◌∷◌, ◌++◌, length, count_by, All, sum_by, refl, sym, ap, ◌∙◌, subst, arith, inl, inr}
use Rattle.std.proofs.Math.Nat.{mul-le-mul_right}
use Rattle.std.proofs.lemmas.Bool.{cases_lt}
use Rattle.std.proofs.lemmas.Bool.Decides.{nat_tests}
use Rattle.std.proofs.lemmas.List.{length-map, length-append}
use Rattle.std.proofs.lemmas.List.Elements.{All-head, All-tail, All-nil, All-append, All-weaker}
use Rattle.std.proofs.lemmas.List.Sums.{sum_by-cons, sum_by-append}
use Rattle.platform_file.specs.Ticks.{TimedView, IsTimed}
use Rattle.schedule_model.specs.declared.schedule.Series.{Series}
use Rattle.flow_routes.specs.Routes.{AreRoutes, IsSimpleRoute, carried, brought}
use Rattle.flow_routes.specs.declared.flow.Flow.{Flow}
use Rattle.flow_routes.specs.declared.flow.Route.{Route}
use Rattle.programme_rows.specs.Listings.{total_below}
use Rattle.programme_rows.proofs.Totals.{same_total}
use Rattle.series_flows.specs.Programmes.{kinds_of}
use Rattle.series_flows.specs.Flows.{ends_of, flow_with}
use Rattle.series_flows.specs.Amounts.{over_kinds, AreAmounts}
use Rattle.series_flows.proofs.Terms.{term_there}
use Rattle.series_routes.specs.Routings.{tasks_of_kind, AreRoutesBelow}
use Rattle.series_routes.specs.Solutions.{IsRouteOf}
use Rattle.series_routes.proofs.Totals.{total_within, all_brought}
use Rattle.series_routes.proofs.Walks.{comes_to, are_routes}

-- all routes of a kind count, and none of another
own_tasks : (kind other : ℕ) (routes : List Route) → All (λ (route : Route). route.kind ≡ kind) routes → tasks_of_kind other routes ≡ cond (nat_eq kind other) (sum_by (λ (route : Route). route.count) routes) 0
own_tasks kind other [] same = none (nat_eq kind other)
  where
    none : (b : Bool) → zero ≡ cond b zero zero
    none true = refl
    none false = refl
own_tasks kind other (route ∷ routes) same =
    sum_by-cons (λ (r : Route). cond (nat_eq r.kind other) r.count 0) route routes
    ∙ both (nat_eq kind other) _ _ _ _ (ap (λ k. cond (nat_eq k other) route.count 0) (All-head (λ (r : Route). r.kind ≡ kind) route routes same)) (own_tasks kind other routes (All-tail (λ (r : Route). r.kind ≡ kind) route routes same))
    (sum_by-cons (λ (r : Route). r.count) route routes)
  where
    both : (b : Bool) (v a c s : ℕ) → v ≡ cond b route.count 0 → a ≡ cond b c 0 → s ≡ route.count + c → v + a ≡ cond b s 0
    both true v a c s e f g = omega (arith, e, f, g)
    both false v a c s e f g = omega (arith, e, f)

module _ (t : TimedView) (timed : IsTimed t) (series : Series) (flow uses : ℕ → ℕ → ℕ) (ticks : ℕ) (amounts : AreAmounts t series flow uses ticks) where
  abbrev flow_at : ℕ → Flow
  flow_at kind = flow_with t (flow kind) (uses kind)

  abbrev all_used : ℕ → ℕ
  all_used kind = total_below (length t.platform.nodes) (uses kind)

  pub few_used : (kind : ℕ) → kind < kinds_of t series → all_used kind ≤ 32 * ticks
  few_used kind known =
      let most = total_within (length t.platform.nodes) (uses kind) ticks (λ node l. amounts.little kind node known l) in
      let nodes : length t.platform.nodes * ticks ≤ 32 * ticks = mul-le-mul_right ticks timed.platform.few_nodes in
      omega (arith, most, nodes)

  -- ---- the routes of one kind

  module _ (kind : ℕ) (known : kind < kinds_of t series) (routes : List Route) (are : AreRoutes (flow_at kind) kind routes) where
    one_kind : All (IsRouteOf t series ticks) routes
    one_kind = are_routes t timed series flow uses ticks amounts kind known routes are

    same_kind : All (λ (route : Route). route.kind ≡ kind) routes
    same_kind = All-weaker (IsSimpleRoute (flow_at kind).master kind (flow_at kind).links) (λ (route : Route). route.kind ≡ kind) (λ (route : Route) (r : IsSimpleRoute (flow_at kind).master kind (flow_at kind).links route). r.same_kind) routes are.simple

    one_count : sum_by (λ (route : Route). route.count) routes ≡ all_used kind
    one_count =
        all_brought (length t.platform.nodes) routes (All-weaker (IsRouteOf t series ticks) (λ (route : Route). route.end < length t.platform.nodes) (λ (route : Route) (r : IsRouteOf t series ticks route). r.inside) routes one_kind)
        ∙ same_total (length t.platform.nodes) (λ node. brought node routes) (uses kind) (comes_to t timed series flow uses ticks amounts kind known routes are)

    one_carried : (link : ℕ) → link < length t.platform.links → carried link routes ≤ flow kind link
    one_carried link l =
        let most = are.within link (rw (length-map t.platform.links ends_of) l) in
        let is = term_there (flow kind) 0 (length t.platform.links) link l in
        omega (arith, most, is)

    one_few : length routes ≤ 160
    one_few = let most = are.few in let nodes = timed.platform.few_nodes in let links = timed.platform.few_links in let size = length-map t.platform.links ends_of in omega (arith, most, nodes, links, size)

  -- ---- the routes of the kinds below a number

  pub all_routes : (n : ℕ) → n ≤ kinds_of t series → (routes : List Route) → AreRoutesBelow flow_at n routes → All (IsRouteOf t series ticks) routes
  all_routes zero few routes none = subst (λ rs. All (IsRouteOf t series ticks) rs) (sym none) (All-nil (IsRouteOf t series ticks))
  all_routes (suc n) few routes behind =
      subst (λ rs. All (IsRouteOf t series ticks) rs) (sym behind.parts)
      (All-append (IsRouteOf t series ticks) behind.before behind.own (all_routes n (omega (arith, few)) behind.before behind.earlier) (one_kind n (omega (arith, few)) behind.own behind.here.routed))

  pub all_few : (n : ℕ) → n ≤ kinds_of t series → (routes : List Route) → AreRoutesBelow flow_at n routes → length routes ≤ n * 160
  all_few zero few routes none = rw none (omega arith)
  all_few (suc n) few routes behind =
      let before = all_few n (omega (arith, few)) behind.before behind.earlier in
      let own = one_few n (omega (arith, few)) behind.own behind.here.routed in
      let all = ap length behind.parts ∙ length-append behind.before behind.own in
      omega (arith, before, own, all)

  -- what two parts of the routes come to together
  in_parts : (f : Route → ℕ) (routes before own : List Route) → routes ≡ before ++ own → sum_by f routes ≡ sum_by f before + sum_by f own
  in_parts f routes before own parts = ap (sum_by f) parts ∙ sum_by-append f before own

  pub all_counts : (n : ℕ) → n ≤ kinds_of t series → (routes : List Route) → AreRoutesBelow flow_at n routes → sum_by (λ (route : Route). route.count) routes ≤ n * (32 * ticks)
  all_counts zero few routes none = rw none (omega arith)
  all_counts (suc n) few routes behind =
      let before = all_counts n (omega (arith, few)) behind.before behind.earlier in
      let own = one_count n (omega (arith, few)) behind.own behind.here.routed in
      let most = few_used n (omega (arith, few)) in
      let all = in_parts (λ (route : Route). route.count) routes behind.before behind.own behind.parts in
      omega (arith, before, own, most, all)

  pub all_carried : (n : ℕ) → n ≤ kinds_of t series → (routes : List Route) → AreRoutesBelow flow_at n routes → (link : ℕ) → link < length t.platform.links → carried link routes ≤ over_kinds n flow link
  all_carried zero few routes none link l = rw none (omega arith)
  all_carried (suc n) few routes behind link l =
      let before = all_carried n (omega (arith, few)) behind.before behind.earlier link l in
      let own = one_carried n (omega (arith, few)) behind.own behind.here.routed link l in
      let all = in_parts (λ (route : Route). count_by (nat_eq link) route.links * route.count) routes behind.before behind.own behind.parts in
      omega (arith, before, own, all)

  kind_in_parts : (kind : ℕ) (routes before own : List Route) → routes ≡ before ++ own → tasks_of_kind kind routes ≡ tasks_of_kind kind before + tasks_of_kind kind own
  kind_in_parts kind = in_parts (λ (route : Route). cond (nat_eq route.kind kind) route.count 0)

  -- kinds that don't come yet have no task
  none_later : (n : ℕ) → n ≤ kinds_of t series → (routes : List Route) → AreRoutesBelow flow_at n routes → (kind : ℕ) → n ≤ kind → tasks_of_kind kind routes ≡ 0
  none_later zero few routes none kind past = rw none refl
  none_later (suc n) few routes behind kind past =
      let before = none_later n (omega (arith, few)) behind.before behind.earlier kind (omega (arith, past)) in
      let other : nat_eq n kind ≡ false = grind (arith, nat_tests) in
      let own = own_tasks n kind behind.own (same_kind n (omega (arith, few)) behind.own behind.here.routed) in
      let all = kind_in_parts kind routes behind.before behind.own behind.parts in
      nothing _ _ _ all before (own ∙ ap (λ b. cond b (sum_by (λ (route : Route). route.count) behind.own) 0) other)
    where
      nothing : (a b c : ℕ) → a ≡ b + c → b ≡ 0 → c ≡ 0 → a ≡ 0
      nothing a b c e f g = omega (arith, e, f, g)

  -- the tasks of each kind are those that its nodes use
  pub all_tasks : (n : ℕ) → n ≤ kinds_of t series → (routes : List Route) → AreRoutesBelow flow_at n routes → (kind : ℕ) → kind < n → tasks_of_kind kind routes ≡ all_used kind
  all_tasks zero few routes none kind below = absurd (omega (arith, below))
  all_tasks (suc n) few routes behind kind below =
      let own = own_tasks n kind behind.own (same_kind n (omega (arith, few)) behind.own behind.here.routed) in
      let all = kind_in_parts kind routes behind.before behind.own behind.parts in
      elim (cases_lt kind n) [
        | inl earlier ↦
            let before = all_tasks n (omega (arith, few)) behind.before behind.earlier kind earlier in
            let other : nat_eq n kind ≡ false = grind (arith, nat_tests) in
            first_alone _ _ _ _ all before (own ∙ ap (λ b. cond b (sum_by (λ (route : Route). route.count) behind.own) 0) other)
        | inr from ↦
            let is : n ≡ kind = omega (arith, from, below) in
            let before = none_later n (omega (arith, few)) behind.before behind.earlier kind from in
            let same : nat_eq n kind ≡ true = grind (arith, nat_tests) in
            let used : sum_by (λ (route : Route). route.count) behind.own ≡ all_used kind = one_count n (omega (arith, few)) behind.own behind.here.routed ∙ ap all_used is in
            second_alone _ _ _ _ all before (own ∙ ap (λ b. cond b (sum_by (λ (route : Route). route.count) behind.own) 0) same ∙ used)
      ]
    where
      first_alone : (a b c u : ℕ) → a ≡ b + c → b ≡ u → c ≡ 0 → a ≡ u
      first_alone a b c u e f g = omega (arith, e, f, g)

      second_alone : (a b c u : ℕ) → a ≡ b + c → b ≡ 0 → c ≡ u → a ≡ u
      second_alone a b c u e f g = omega (arith, e, f, g)

  -- what comes to an end at a node is what it uses of all kinds
  pub all_brought_to : (n : ℕ) → n ≤ kinds_of t series → (routes : List Route) → AreRoutesBelow flow_at n routes → (node : ℕ) → node < length t.platform.nodes → brought node routes ≡ total_below n (λ kind. uses kind node)
  all_brought_to zero few routes none node l = rw none refl
  all_brought_to (suc n) few routes behind node l =
      let before = all_brought_to n (omega (arith, few)) behind.before behind.earlier node l in
      let own = comes_to t timed series flow uses ticks amounts n (omega (arith, few)) behind.own behind.here.routed node l in
      let all = in_parts (λ (route : Route). cond (nat_eq route.end node) route.count 0) routes behind.before behind.own behind.parts in
      omega (arith, before, own, all)
