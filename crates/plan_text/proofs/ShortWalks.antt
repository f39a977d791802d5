-- Simple walks are short.
use Rattle.std.proofs.Common.{◌≡◌, ℕ, suc, ◌<◌, ◌≤◌, Bool, true, false, ◌||◌, nat_eq, All, List, [], ◌∷◌, length, refl, ap, arith}
use Rattle.std.specs.List.{list_any}
use Rattle.std.proofs.lemmas.Bool.{eqb-true}
use Rattle.std.proofs.lemmas.Map.Steps.{length-le_from_distinct_below}
use Rattle.std.proofs.lemmas.List.Elements.{All-head, All-tail}
use Rattle.platform_file.specs.Ticks.{TimedView, IsTimed}
use Rattle.schedule_model.specs.declared.schedule.Series.{Series}
use Rattle.flow_routes.specs.declared.flow.Route.{Route}
use Rattle.period_table.specs.Tables.{IsRoute, nodes_on, longest}
use Rattle.period_table.proofs.FittingTables.{end_exists}
use Rattle.plan_text.proofs.RowReads.{nodes_exist}

-- a walk has one node more than links
nodes_counted : (t : TimedView) (links : List ℕ) (end : ℕ) → length (nodes_on t links end) ≡ suc (length links)
nodes_counted t [] end = refl
nodes_counted t (link ∷ links) end = ap suc (nodes_counted t links end)

-- what is found among some numbers is below their bound
found_below : (xs : List ℕ) (n : ℕ) → All (λ x. x < n) xs → (q : ℕ) → list_any (nat_eq q) xs ≡ true → q < n
found_below [] n all q found = let bad : false ≡ true = found in cc
found_below (x ∷ xs) n all q found = of (nat_eq q x) refl found (found_below xs n (All-tail (λ x. x < n) x xs all) q)
  where
    of : (b : Bool) → nat_eq q x ≡ b → (b || list_any (nat_eq q) xs) ≡ true → (list_any (nat_eq q) xs ≡ true → q < n) → q < n
    of true is e later = let same : q ≡ x = eqb-true q x is in omega (arith, same, All-head (λ x. x < n) x xs all)
    of false is e later = later e

pub few_links : (t : TimedView) → IsTimed t → (series : Series) (route : Route) → IsRoute t series route → length route.links ≤ 31
few_links t timed series route is =
    let there = nodes_exist t timed route.links route.end is.walk (end_exists t series route timed is) in
    let most = length-le_from_distinct_below (nodes_on t route.links route.end) (length t.platform.nodes) is.simple (found_below (nodes_on t route.links route.end) (length t.platform.nodes) there) in
    omega (arith, most, nodes_counted t route.links route.end, timed.platform.few_nodes)

pub short_longest : (t : TimedView) → IsTimed t → (series : Series) (routes : List Route) → All (IsRoute t series) routes → longest routes ≤ 31
short_longest t timed series [] all = omega arith
short_longest t timed series (route ∷ routes) all =
    let first = few_links t timed series route (All-head (IsRoute t series) route routes all) in
    let others = short_longest t timed series routes (All-tail (IsRoute t series) route routes all) in
    omega (arith, first, others)
