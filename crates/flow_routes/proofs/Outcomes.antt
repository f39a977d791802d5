-- What the rounds that serve a node come to.
use Rattle.std.proofs.Common.{rules, ◌≡◌, ◌≢◌, ℕ, zero, suc, ◌+◌, ◌-◌, ◌*◌, ◌<◌, ◌≤◌, Bool, true, false, cond, nat_eq, count_by, All, List, [], ◌∷◌, ◌++◌, append_assoc, length, drop, get_or, arith, refl, sym, ◌∙◌, ap, subst, inl, inr}
use Rattle.std.specs.Prelude.{reverse}
use Rattle.std.specs.List.{IsDistinct}
use Rattle.std.proofs.lemmas.Bool.{cases_eq, cases_lt, ne_eqb}
use Rattle.std.proofs.lemmas.List.Elements.{All-cons}
use Rattle.std.proofs.lemmas.List.Sums.{sum_by-cons}
use Rattle.std.proofs.lemmas.List.Sorted.{IsPermutation-reverse, sum_by-IsPermutation}
use Rattle.flow_routes.specs.Flows.{IsKept, only}
use Rattle.flow_routes.specs.Routes.{IsSimpleRoute, carried, brought}
use Rattle.flow_routes.specs.Walks.{LeadsBack, taken_along, left_over}
use Rattle.flow_routes.specs.Rounds.{IsRouteRound, IsCycleRound, AreServed, own_route, IsNodeServed}
use Rattle.flow_routes.specs.declared.flow.Route.{Route}
use Rattle.flow_routes.proofs.Flows.{route_keeps, cycle_keeps, leads_from, left_over_less}
use Rattle.flow_routes.proofs.Rounds.{route_takes, cycle_takes}
use Rattle.flow_routes.proofs.Turning.{turned_walk, turned_first, turned_simple}
use Rattle.flow_routes.proofs.Laws.{times, taken_length, taken_at, taken_less, taken_fewer, open_links, open_less, opens, opens_some, opens_at_most}

-- the route of a round is a simple one
pub route_simple : (master kind : ℕ) (links : List (ℕ × ℕ)) (amounts : List ℕ) (demand node : ℕ) (route : Route) (left : List ℕ) → IsRouteRound master kind links amounts demand node route left → 0 < route.count →
    IsSimpleRoute master kind links route
route_simple master kind links amounts demand node route left r some =
    let inside : (place : ℕ) → place < length r.path → get_or r.path place 0 < length links = λ place l. (r.walk.firsts place l).inside in
    record {
      from_master = rw (r.turned, r.ends) (turned_first links node r.path master r.walk.leads);
      walk = rw (r.turned, r.ends) (turned_walk links node r.path master r.walk.leads inside);
      simple = rw (r.turned, r.ends) (turned_simple master links amounts node r.path r.walk);
      some = some;
      same_kind = r.same_kind;
    }

-- what is left after a route's round, and after a cycle's
pub record Falls (links : List (ℕ × ℕ)) (amounts left : List ℕ) : Type 0 where
  pub size : length left ≡ length amounts
  pub less : left_over links left < left_over links amounts
  pub at_most : (i : ℕ) → get_or left i 0 ≤ get_or amounts i 0

pub route_falls : (master kind : ℕ) (links : List (ℕ × ℕ)) (amounts : List ℕ) (demand node : ℕ) (route : Route) (left : List ℕ) → IsRouteRound master kind links amounts demand node route left →
    length amounts ≡ length links → node ≢ master → 0 < demand → Falls links amounts left
route_falls master kind links amounts demand node route left r lengths apart some =
    let takes = route_takes master kind links amounts demand node route left r lengths apart some in
    rw r.taken
    record {
      size = taken_length amounts r.path route.count;
      less = left_over_less links amounts r.path route.count lengths takes.enough takes.some takes.any;
      at_most = taken_less amounts r.path route.count takes.enough;
    }

pub cycle_falls : (master : ℕ) (links : List (ℕ × ℕ)) (amounts : List ℕ) (node : ℕ) (left : List ℕ) → IsCycleRound master links amounts node left → length amounts ≡ length links → Falls links amounts left
cycle_falls master links amounts node left r lengths =
    let takes = cycle_takes master links amounts node left r lengths in
    rw r.taken
    record {
      size = taken_length amounts (drop r.begin r.path) r.least;
      less = left_over_less links amounts (drop r.begin r.path) r.least lengths takes.enough takes.some takes.any;
      at_most = taken_less amounts (drop r.begin r.path) r.least takes.enough;
    }

-- a link on a turned walk stands on it as often
times_turned : (link : ℕ) (path : List ℕ) → times link (reverse path) ≡ times link path
times_turned link path = sum_by-IsPermutation (λ x. cond {A = ℕ} (nat_eq link x) 1 0) path (reverse path) (IsPermutation-reverse path)

-- what a route carries it takes
pub route_carries : (master kind : ℕ) (links : List (ℕ × ℕ)) (amounts : List ℕ) (demand node : ℕ) (route : Route) (left : List ℕ) → IsRouteRound master kind links amounts demand node route left →
    length amounts ≡ length links → node ≢ master → 0 < demand → (link : ℕ) → times link route.links * route.count + get_or left link 0 ≡ get_or amounts link 0
route_carries master kind links amounts demand node route left r lengths apart some link =
    let takes = route_takes master kind links amounts demand node route left r lengths apart some in
    let same : times link route.links ≡ times link r.path = ap (times link) r.turned ∙ times_turned link r.path in
    let product : times link route.links * route.count ≡ times link r.path * route.count = ap (λ n. n * route.count) same in
    let left_is : get_or left link 0 ≡ get_or (taken_along amounts r.path route.count) link 0 = ap (λ l. get_or l link 0) r.taken in
    omega (arith, product, left_is, taken_at amounts r.path route.count link takes.enough)

-- a route's round ends the demand or empties a link, and a cycle's empties one
pub route_fewer : (master kind : ℕ) (links : List (ℕ × ℕ)) (amounts : List ℕ) (demand node : ℕ) (route : Route) (left : List ℕ) → IsRouteRound master kind links amounts demand node route left →
    length amounts ≡ length links → node ≢ master → 0 < demand → suc (open_links left + opens (demand - route.count)) ≤ open_links amounts + 1
route_fewer master kind links amounts demand node route left r lengths apart some =
    let takes = route_takes master kind links amounts demand node route left r lengths apart some in
    let count = r.count in
    rw r.taken
    (elim (cases_lt demand r.least) [
      | inl less ↦
          let all : route.count ≡ demand = omega (arith, count, less) in
          let ended : opens (demand - route.count) ≡ 0 = ap opens (let e : demand - route.count ≡ 0 = omega (arith, all) in e) in
          omega (arith, ended, open_less (taken_along amounts r.path route.count) amounts (taken_length amounts r.path route.count) (taken_less amounts r.path route.count takes.enough))
      | inr enough ↦
          let all : get_or amounts (get_or r.path r.is_least.place 0) 0 ≡ route.count = r.is_least.reached ∙ (let e : r.least ≡ route.count = omega (arith, count, enough) in e) in
          omega (arith, opens_at_most (demand - route.count), taken_fewer amounts r.path route.count r.is_least.place takes.clear takes.enough r.is_least.inside all)
    ])

pub cycle_fewer : (master : ℕ) (links : List (ℕ × ℕ)) (amounts : List ℕ) (node : ℕ) (left : List ℕ) → IsCycleRound master links amounts node left → length amounts ≡ length links → open_links left < open_links amounts
cycle_fewer master links amounts node left r lengths =
    let takes = cycle_takes master links amounts node left r lengths in
    rw r.taken (taken_fewer amounts (drop r.begin r.path) r.least r.is_least.place takes.clear takes.enough r.is_least.inside r.is_least.reached)

-- what serving a node comes to
pub record Outcome (master kind : ℕ) (links : List (ℕ × ℕ)) (node : ℕ) (amounts : List ℕ) (demand : ℕ) (routes : List Route) (after : List ℕ) : Type 0 where
  pub simple : All (IsSimpleRoute master kind links) routes
  pub size : length after ≡ length amounts
  pub met : (v : ℕ) → brought v routes ≡ cond (nat_eq node v) demand 0
  pub within : (link : ℕ) → carried link routes + get_or after link 0 ≤ get_or amounts link 0
  pub few : length routes + open_links after ≤ open_links amounts + opens demand
  pub kept : (before later : ℕ → ℕ) → IsKept master links amounts before → ((v : ℕ) → v ≢ master → later v + cond (nat_eq node v) demand 0 ≡ before v) → IsKept master links after later

carried_cons : (link : ℕ) (route : Route) (routes : List Route) → carried link (route ∷ routes) ≡ times link route.links * route.count + carried link routes
carried_cons link route routes = sum_by-cons (λ r. count_by (nat_eq link) r.links * r.count) route routes

brought_cons : (v : ℕ) (route : Route) (routes : List Route) → brought v (route ∷ routes) ≡ cond (nat_eq route.end v) route.count 0 + brought v routes
brought_cons v route routes = sum_by-cons (λ r. cond {A = ℕ} (nat_eq r.end v) r.count 0) route routes

-- a demand that is served in part
in_part : (b : Bool) (count demand : ℕ) → count ≤ demand → cond b count 0 + cond b (demand - count) 0 ≡ cond b demand 0
in_part true count demand l = omega arith
in_part false count demand l = refl

served_route : (master kind : ℕ) (links : List (ℕ × ℕ)) (node : ℕ) (amounts : List ℕ) (demand : ℕ) (route : Route) (left : List ℕ) (rest : List Route) (after : List ℕ) →
    IsRouteRound master kind links amounts demand node route left → length amounts ≡ length links → node ≢ master → 0 < demand →
    Outcome master kind links node left (demand - route.count) rest after → Outcome master kind links node amounts demand (route ∷ rest) after
served_route master kind links node amounts demand route left rest after r lengths apart some o =
    let takes = route_takes master kind links amounts demand node route left r lengths apart some in
    let falls = route_falls master kind links amounts demand node route left r lengths apart some in
    let within : route.count ≤ demand = takes.within in
    record {
      simple = All-cons (IsSimpleRoute master kind links) route rest (route_simple master kind links amounts demand node route left r takes.some) o.simple;
      size = o.size ∙ falls.size;
      met = λ v.
          let own : cond {A = ℕ} (nat_eq route.end v) route.count 0 ≡ cond {A = ℕ} (nat_eq node v) route.count 0 = ap (λ n. cond {A = ℕ} (nat_eq n v) route.count 0) r.ends in
          omega (arith, brought_cons v route rest, own, o.met v, in_part (nat_eq node v) route.count demand within);
      within = λ link. omega (arith, carried_cons link route rest, o.within link, route_carries master kind links amounts demand node route left r lengths apart some link);
      few =
          let fewer = route_fewer master kind links amounts demand node route left r lengths apart some in
          let one : opens demand ≡ 1 = opens_some demand some in
          let rest_few = o.few in
          omega (arith, fewer, one, rest_few);
      kept = λ before later h e.
          let middle = λ (v : ℕ). later v + cond {A = ℕ} (nat_eq node v) (demand - route.count) 0 in
          let first : IsKept master links left middle =
          rw r.taken
          (route_keeps master links amounts r.path route.count node before middle lengths takes.enough h r.walk.leads
          (λ v ne. omega (arith, e v ne, in_part (nat_eq node v) route.count demand within))) in
          o.kept middle later first (λ v ne. refl);
    }

served_cycle : (master kind : ℕ) (links : List (ℕ × ℕ)) (node : ℕ) (amounts : List ℕ) (demand : ℕ) (left : List ℕ) (routes : List Route) (after : List ℕ) →
    IsCycleRound master links amounts node left → length amounts ≡ length links →
    Outcome master kind links node left demand routes after → Outcome master kind links node amounts demand routes after
served_cycle master kind links node amounts demand left routes after r lengths o =
    let takes = cycle_takes master links amounts node left r lengths in
    let falls = cycle_falls master links amounts node left r lengths in
    let cycle = drop r.begin r.path in
    let leads : LeadsBack links r.end cycle r.end = subst (λ v. LeadsBack links v cycle r.end) r.met (leads_from links node r.path r.end r.begin r.inside r.walk.leads) in
    record {
      simple = o.simple;
      size = o.size ∙ falls.size;
      met = o.met;
      within = λ link. omega (arith, o.within link, falls.at_most link);
      few = let fewer = cycle_fewer master links amounts node left r lengths in let rest = o.few in omega (arith, fewer, rest);
      kept = λ before later h e. o.kept before later (rw r.taken (cycle_keeps master links amounts cycle r.least r.end before lengths takes.enough h leads)) e;
    }

pub outcome : (rounds master kind : ℕ) (links : List (ℕ × ℕ)) (node : ℕ) (after amounts : List ℕ) (demand : ℕ) (routes : List Route) → length amounts ≡ length links → node ≢ master →
    AreServed rounds master kind links node after amounts demand routes → Outcome master kind links node amounts demand routes after
outcome zero master kind links node after amounts demand routes lengths apart (none, nothing, same) =
    rw (none, nothing, same)
    record {
      simple = All-nil;
      size = refl;
      met = λ v. elim (nat_eq node v) as (λ b. 0 ≡ cond {A = ℕ} b 0 0) [ true ↦ refl | false ↦ refl ];
      within = λ link. omega arith;
      few = omega arith;
      kept = λ before later h e v ne.
          let here = e v ne in
          let zero_there : cond {A = ℕ} (nat_eq node v) 0 0 ≡ 0 = elim (nat_eq node v) as (λ b. cond {A = ℕ} b 0 0 ≡ 0) [ true ↦ refl | false ↦ refl ] in
          let kept = h v ne in
          omega (arith, here, zero_there, kept);
    }
  where
    All-nil : All (IsSimpleRoute master kind links) []
    All-nil = search rules
outcome (suc rounds) master kind links node after amounts demand routes lengths apart (some, inl step) =
    let falls = route_falls master kind links amounts demand node step.route step.left step.round lengths apart some in
    rw step.first
    (served_route master kind links node amounts demand step.route step.left step.rest after step.round lengths apart some
    (outcome rounds master kind links node after step.left (demand - step.route.count) step.rest (falls.size ∙ lengths) apart step.more))
outcome (suc rounds) master kind links node after amounts demand routes lengths apart (some, inr step) =
    let falls = cycle_falls master links amounts node step.left step.round lengths in
    served_cycle master kind links node amounts demand step.left routes after step.round lengths
    (outcome rounds master kind links node after step.left demand routes (falls.size ∙ lengths) apart step.more)

-- by some rounds
pub record HasServed (master kind : ℕ) (links : List (ℕ × ℕ)) (node : ℕ) (after amounts : List ℕ) (demand : ℕ) (routes : List Route) : Type 0 where
  pub rounds : ℕ
  pub served : AreServed rounds master kind links node after amounts demand routes

-- a round that finds a route keeps what is wanted, and one that cancels a cycle
pub route_keeps_only : (master kind : ℕ) (links : List (ℕ × ℕ)) (amounts : List ℕ) (demand node : ℕ) (route : Route) (left : List ℕ) → IsRouteRound master kind links amounts demand node route left →
    length amounts ≡ length links → node ≢ master → 0 < demand → IsKept master links amounts (only node demand) → IsKept master links left (only node (demand - route.count))
route_keeps_only master kind links amounts demand node route left r lengths apart some kept =
    let takes = route_takes master kind links amounts demand node route left r lengths apart some in
    rw r.taken
    (route_keeps master links amounts r.path route.count node (only node demand) (only node (demand - route.count)) lengths takes.enough kept r.walk.leads
    (λ v ne. omega (arith, in_part (nat_eq node v) route.count demand takes.within)))

pub cycle_keeps_only : (master : ℕ) (links : List (ℕ × ℕ)) (amounts : List ℕ) (demand node : ℕ) (left : List ℕ) → IsCycleRound master links amounts node left →
    length amounts ≡ length links → IsKept master links amounts (only node demand) → IsKept master links left (only node demand)
cycle_keeps_only master links amounts demand node left r lengths kept =
    let takes = cycle_takes master links amounts node left r lengths in
    let cycle = drop r.begin r.path in
    let leads : LeadsBack links r.end cycle r.end = subst (λ v. LeadsBack links v cycle r.end) r.met (leads_from links node r.path r.end r.begin r.inside r.walk.leads) in
    rw r.taken (cycle_keeps master links amounts cycle r.least r.end (only node demand) lengths takes.enough kept leads)

-- what further rounds would serve comes behind what is served so far
abbrev pub Continues : ℕ → ℕ → List (ℕ × ℕ) → ℕ → List ℕ → ℕ → List ℕ → ℕ → List Route → Type 0
Continues master kind links node start wanted amounts demand own =
    (rounds : ℕ) (rest : List Route) (after : List ℕ) → AreServed rounds master kind links node after amounts demand rest → HasServed master kind links node after start wanted (own ++ rest)

pub continues_route : (master kind : ℕ) (links : List (ℕ × ℕ)) (node : ℕ) (start : List ℕ) (wanted : ℕ) (amounts : List ℕ) (demand : ℕ) (own : List Route) (route : Route) (left : List ℕ) →
    Continues master kind links node start wanted amounts demand own → 0 < demand → IsRouteRound master kind links amounts demand node route left →
    Continues master kind links node start wanted left (demand - route.count) (own ++ route ∷ [])
continues_route master kind links node start wanted amounts demand own route left so_far some r rounds rest after served =
    rw (append_assoc own (route ∷ []) rest)
    (so_far (suc rounds) (route ∷ rest) after (some, inl (record { route = route; left = left; rest = rest; first = refl; round = r; more = served })))

pub continues_cycle : (master kind : ℕ) (links : List (ℕ × ℕ)) (node : ℕ) (start : List ℕ) (wanted : ℕ) (amounts : List ℕ) (demand : ℕ) (own : List Route) (left : List ℕ) →
    Continues master kind links node start wanted amounts demand own → 0 < demand → IsCycleRound master links amounts node left →
    Continues master kind links node start wanted left demand own
continues_cycle master kind links node start wanted amounts demand own left so_far some r rounds rest after served =
    so_far (suc rounds) rest after (some, inr (record { left = left; round = r; more = served }))

-- a node's routes, a master's or another's
master_outcome : (master kind : ℕ) (links : List (ℕ × ℕ)) (node : ℕ) (amounts : List ℕ) (demand : ℕ) → node ≡ master → Outcome master kind links node amounts demand (own_route kind node demand) amounts
unfolding IsDistinct
master_outcome master kind links node amounts zero same = record {
  simple = search rules;
  size = refl;
  met = λ v. elim (nat_eq node v) as (λ b. 0 ≡ cond {A = ℕ} b 0 0) [ true ↦ refl | false ↦ refl ];
  within = λ link. omega arith;
  few = omega arith;
  kept = λ before later h e v ne.
      let zero_there : cond {A = ℕ} (nat_eq node v) 0 0 ≡ 0 = elim (nat_eq node v) as (λ b. cond {A = ℕ} b 0 0 ≡ 0) [ true ↦ refl | false ↦ refl ] in
      omega (arith, e v ne, zero_there, h v ne);
}
master_outcome master kind links node amounts (suc n) same =
    let route : Route = record { links = []; end = node; count = suc n; kind = kind } in
    record {
      simple = All-cons (IsSimpleRoute master kind links) route [] (record { from_master = same; walk = tt; simple = (tt, tt); some = omega arith; same_kind = refl }) (search rules);
      size = refl;
      met = λ v. brought_cons v route [] ∙ (let e : cond {A = ℕ} (nat_eq node v) (suc n) 0 + 0 ≡ cond {A = ℕ} (nat_eq node v) (suc n) 0 = omega arith in e);
      within = λ link. omega (arith, carried_cons link route []);
      few = omega arith;
      kept = λ before later h e v ne.
          let none : cond {A = ℕ} (nat_eq node v) (suc n) 0 ≡ 0 = ap (λ b. cond {A = ℕ} b (suc n) 0) (ne_eqb node v (λ f. ne (sym f ∙ same))) in
          omega (arith, e v ne, none, h v ne);
    }

pub node_outcome : (master kind : ℕ) (links : List (ℕ × ℕ)) (node demand : ℕ) (amounts : List ℕ) (routes : List Route) (after : List ℕ) → length amounts ≡ length links →
    IsNodeServed master kind links node demand amounts routes after → Outcome master kind links node amounts demand routes after
node_outcome master kind links node demand amounts routes after lengths served =
    elim (cases_eq node master) [
      | inl same ↦ let own = served.own same in rw (own.0, own.1) (master_outcome master kind links node amounts demand same)
      | inr apart ↦ outcome served.rounds master kind links node after amounts demand routes lengths apart (served.served apart)
    ]
