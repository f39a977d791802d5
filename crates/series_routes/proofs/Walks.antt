-- The routes of a flow are walks of the platform.
use Rattle.std.proofs.Common.{◌≡◌, ℕ, suc, ◌+◌, ◌<◌, ◌≤◌, true, false, cond, nat_eq, List, [], ◌∷◌, length, get_or, All, refl, sym, ap, ◌∙◌, subst, arith, inl, inr}
use Rattle.std.specs.List.{IsDistinct, AllByRecursion, list_any}
use Rattle.std.proofs.lemmas.Bool.Decides.{nat_tests}
use Rattle.std.proofs.lemmas.List.{length-map}
use Rattle.std.proofs.lemmas.List.Elements.{All-get_or}
use Rattle.std.proofs.lemmas.List.Sums.{sum_by_more_le}
use Rattle.std.proofs.lemmas.Map.Keys.{IsDistinct-head}
use Rattle.std.proofs.lemmas.Map.Steps.{length-le_from_distinct_below}
use Rattle.platform_file.specs.Platform.{master_of}
use Rattle.platform_file.specs.Ticks.{TimedView, IsTimed}
use Rattle.schedule_model.specs.Operations.{sender_of, receiver_of}
use Rattle.schedule_model.specs.declared.schedule.Series.{Series}
use Rattle.schedule_model.specs.declared.schedule.Series.TheVariants.{Tasking, Scatter}
use Rattle.flow_routes.specs.Flows.{link_at}
use Rattle.flow_routes.specs.Routes.{first_node as first_of, nodes_on as nodes_of, IsWalk as IsFlowWalk, IsSimpleRoute, AreRoutes, brought}
use Rattle.flow_routes.specs.declared.flow.Route.{Route}
use Rattle.period_table.specs.Tables.{first_node, nodes_on, IsWalk, EndsWell}
use Rattle.series_flows.specs.Programmes.{kinds_of}
use Rattle.series_flows.specs.Flows.{flow_with, ends_of}
use Rattle.series_flows.specs.Amounts.{MayUse, AreAmounts}
use Rattle.series_flows.proofs.Terms.{true_or_false, term_there}
use Rattle.series_routes.specs.Solutions.{IsRouteOf}
use Rattle.series_routes.proofs.FlowsKept.{ends, ends_at, sender_inside, receiver_inside}

-- the tests are the same in both orders
pub turned : (a b : ℕ) → nat_eq a b ≡ nat_eq b a
turned a b = elim (true_or_false (nat_eq b a)) [
  | inl is ↦ grind (arith, nat_tests)
  | inr not ↦ grind (arith, nat_tests)
]

-- what a test finds in a list is bounded with the list
found_below : (n : ℕ) (xs : List ℕ) → AllByRecursion (λ x. x < n) xs → (q : ℕ) → list_any (nat_eq q) xs ≡ true → q < n
found_below n [] all q e = let bad : false ≡ true = e in absurd cc
found_below n (x ∷ xs) all q e =
    elim (true_or_false (nat_eq q x)) [
      | inl same ↦ let is : q ≡ x = grind (arith, nat_tests) in rw is all.0
      | inr other ↦ found_below n xs all.1 q (rw other at e)
    ]

-- ---- in the words of the platform

module _ (t : TimedView) where
  abbrev links : List (ℕ × ℕ)
  links = ends t

  inside : (k : ℕ) → k < length links → k < length t.platform.links
  inside k l = rw (length-map t.platform.links ends_of) at l

  sender : (k : ℕ) → k < length links → (link_at links k).0 ≡ sender_of t k
  sender k l = ap (λ (pair : ℕ × ℕ). pair.0) (ends_at t k (inside k l))

  receiver : (k : ℕ) → k < length links → (link_at links k).1 ≡ receiver_of t k
  receiver k l = ap (λ (pair : ℕ × ℕ). pair.1) (ends_at t k (inside k l))

  same_first : (ks : List ℕ) (end : ℕ) → IsFlowWalk links ks end → first_of links ks end ≡ first_node t ks end
  same_first [] end walk = refl
  same_first (k ∷ ks) end walk = sender k walk.0

  same_nodes : (ks : List ℕ) (end : ℕ) → IsFlowWalk links ks end → nodes_of links ks end ≡ nodes_on t ks end
  same_nodes [] end walk = refl
  same_nodes (k ∷ ks) end walk = rw (sender k walk.0, same_nodes ks end walk.2) refl

  -- what holds of the nodes of a walk holds of its first
  of_first : (P : ℕ → Type 0) (ks : List ℕ) (end : ℕ) → AllByRecursion P (nodes_on t ks end) → P (first_node t ks end)
  of_first P [] end all = all.0
  of_first P (k ∷ ks) end all = all.0

  -- the nodes behind the first one
  abbrev Behind : (ℕ → Type 0) → List ℕ → ℕ → Type 0
  Behind P [] end = Unit {0}
  Behind P (k ∷ ks) end = AllByRecursion P (nodes_on t ks end)

  behind : (P : ℕ → Type 0) (ks : List ℕ) (end : ℕ) → AllByRecursion P (nodes_on t ks end) → Behind P ks end
  behind P [] end all = tt
  behind P (k ∷ ks) end all = all.1

  abbrev IsAway : ℕ → Type 0
  IsAway node = nat_eq (master_of t.platform) node ≡ false

  is_walk : (ks : List ℕ) (end : ℕ) → IsFlowWalk links ks end → Behind IsAway ks end → IsWalk t ks end
  is_walk [] end walk away = tt
  is_walk (k ∷ ks) end walk away =
      let enters : receiver_of t k ≡ first_node t ks end = sym (receiver k walk.0) ∙ walk.1 ∙ same_first ks end walk.2 in
      (inside k walk.0, enters, turned (receiver_of t k) (master_of t.platform) ∙ rw enters (of_first IsAway ks end away), is_walk ks end walk.2 (behind IsAway ks end away))

  simple_away : (ks : List ℕ) (end : ℕ) → first_node t ks end ≡ master_of t.platform → IsDistinct nat_eq (nodes_on t ks end) → Behind IsAway ks end
  simple_away [] end first simple = tt
  simple_away (k ∷ ks) end first simple =
      subst (λ node. AllByRecursion (λ other. nat_eq node other ≡ false) (nodes_on t ks end)) first (IsDistinct-head nat_eq (sender_of t k) (nodes_on t ks end) simple)

  module _ (timed : IsTimed t) where
    abbrev Inside : ℕ → Type 0
    Inside node = node < length t.platform.nodes

    -- the walk stays among the nodes
    end_inside : (ks : List ℕ) (end : ℕ) → IsWalk t ks end → Inside (first_node t ks end) → Inside end
    end_inside [] end walk first = first
    end_inside (k ∷ ks) end walk first =
        end_inside ks end walk.3 (subst Inside walk.1 (receiver_inside t timed k walk.0))

    nodes_inside : (ks : List ℕ) (end : ℕ) → IsWalk t ks end → Inside end → AllByRecursion Inside (nodes_on t ks end)
    nodes_inside [] end walk last = (last, tt)
    nodes_inside (k ∷ ks) end walk last = (sender_inside t timed k walk.0, nodes_inside ks end walk.3 last)

    count_nodes : (ks : List ℕ) (end : ℕ) → length (nodes_on t ks end) ≡ suc (length ks)
    count_nodes [] end = refl
    count_nodes (k ∷ ks) end = ap suc (count_nodes ks end)

    module _ (series : Series) (flow uses : ℕ → ℕ → ℕ) (ticks : ℕ) (amounts : AreAmounts t series flow uses ticks) (kind : ℕ) (known : kind < kinds_of t series) where
      -- what may be used at the end of a route ends it well
      ends_well : (series : Series) (route : Route) → kind < kinds_of t series → route.kind ≡ kind → MayUse t series kind route.end → EndsWell t series route
      ends_well Tasking route below same computed = (omega (arith, below, same), computed)
      ends_well Scatter route below same target = (rw same below, rw same target)

      module _ (routes : List Route) (are : AreRoutes (flow_with t (flow kind) (uses kind)) kind routes) where
        -- what comes to an end at a node is what it uses
        pub comes_to : (node : ℕ) → node < length t.platform.nodes → brought node routes ≡ uses kind node
        comes_to node l = are.met node l ∙ term_there (uses kind) 0 (length t.platform.nodes) node l

        module _ (route : Route) (simple : IsSimpleRoute (master_of t.platform) kind links route) (among : route.count ≤ brought route.end routes) where
          differ : IsDistinct nat_eq (nodes_on t route.links route.end)
          differ = rw (same_nodes route.links route.end simple.walk) at simple.simple

          first : first_node t route.links route.end ≡ master_of t.platform
          first = sym (same_first route.links route.end simple.walk) ∙ simple.from_master

          walk : IsWalk t route.links route.end
          walk = is_walk route.links route.end simple.walk (simple_away route.links route.end first differ)

          there : route.end < length t.platform.nodes
          there = end_inside route.links route.end walk (rw first timed.platform.a_master)

          itself : nat_eq (master_of t.platform) (master_of t.platform) ≡ true
          itself = grind (arith, nat_tests)

          few : length (nodes_on t route.links route.end) ≤ length t.platform.nodes
          few =
              length-le_from_distinct_below (nodes_on t route.links route.end) (length t.platform.nodes) differ
              (found_below (length t.platform.nodes) (nodes_on t route.links route.end) (nodes_inside route.links route.end walk there))

          is_route : IsRouteOf t series ticks route
          is_route = record {
            from_master = rw first itself;
            walk = walk;
            simple = differ;
            ending = ends_well series route known simple.same_kind (amounts.may_use kind route.end known there (omega (arith, simple.some, among, comes_to route.end there)));
            inside = there;
            short = omega (arith, few, count_nodes route.links route.end);
            some = simple.some;
            bounded = let most = amounts.little kind route.end known there in omega (arith, among, most, comes_to route.end there);
          }

        -- what a route brings to its end is among all that comes there
        brings : (k : ℕ) (d : Route) → k < length routes → (get_or routes k d).count ≤ brought (get_or routes k d).end routes
        brings k d l =
            let more = sum_by_more_le (λ (other : Route). cond (nat_eq other.end (get_or routes k d).end) other.count 0) routes k d l in
            let same : nat_eq (get_or routes k d).end (get_or routes k d).end ≡ true = grind (arith, nat_tests) in
            among _ _ _ _ more (rw same refl)
          where
            among : (a v b c : ℕ) → a + v ≤ b → v ≡ c → c ≤ b
            among a v b c h e = omega arith

        pub are_routes : All (IsRouteOf t series ticks) routes
        are_routes k d l = is_route (get_or routes k d) (All-get_or (IsSimpleRoute (master_of t.platform) kind links) routes k d l are.simple) (brings k d l)
