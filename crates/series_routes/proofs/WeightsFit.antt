-- The weights of routes within amounts leave every port in time.
use Rattle.std.proofs.Common.{◌≡◌, ℕ, zero, suc, ◌+◌, ◌*◌, ◌<◌, ◌≤◌, Bool, true, false, cond, nat_eq, List, [], ◌∷◌, length, get_or, Some, sum_by, refl, sym, ap, ◌∙◌, arith, inl, inr}
use Rattle.std.proofs.Math.Nat.{mul-le-mul_left}
use Rattle.std.specs.List.{slice_get}
use Rattle.std.proofs.lemmas.Bool.{cases_order}
use Rattle.std.proofs.lemmas.Bool.Decides.{nat_tests}
use Rattle.std.proofs.lemmas.Map.Keys.{apart_from_distinct}
use Rattle.std.proofs.lemmas.Option.{get_or_from_slice_get, slice_get_within}
use Rattle.std.proofs.lemmas.List.Sums.{sum_by-cons, sum_by-append}
use Rattle.platform_file.specs.Platform.{LinkView, same_ends}
use Rattle.platform_file.specs.Ticks.{TimedView, IsTimed}
use Rattle.schedule_model.specs.Operations.{cost_of, sender_of, receiver_of, no_link}
use Rattle.schedule_model.specs.declared.schedule.Series.{Series}
use Rattle.flow_routes.specs.Routes.{carried}
use Rattle.flow_routes.specs.declared.flow.Route.{Route}
use Rattle.bipartite_slots.specs.Parts.{Exist, AreApart, AreWithin}
use Rattle.bipartite_slots.specs.declared.weights.Edge.{Edge}
use Rattle.exact_simplex.specs.Optima.{first_terms}
use Rattle.programme_rows.specs.Listings.{total_below}
use Rattle.programme_rows.proofs.Totals.{total_at_most, one_of_total}
use Rattle.series_flows.specs.Programmes.{kinds_of}
use Rattle.series_flows.specs.Amounts.{over, over_kinds, AreAmounts}
use Rattle.series_flows.proofs.Terms.{length_terms, term_there}
use Rattle.series_routes.specs.Loads.{edge_of, weights_of}
use Rattle.series_routes.proofs.FlowsKept.{sender_inside, receiver_inside}

-- a sum over terms
sum_of_terms : {A : Type 0} (f : A → ℕ) (g : ℕ → A) (n : ℕ) → sum_by f (first_terms g n) ≡ total_below n (λ k. f (g k))
sum_of_terms f g zero = refl
sum_of_terms f g (suc n) = sum_by-append f (first_terms g n) (g n ∷ []) ∙ last _ _ _ _ (sum_of_terms f g n) (sum_by-cons f (g n) [])
  where
    last : (a b v w : ℕ) → a ≡ b → v ≡ w + 0 → a + v ≡ b + w
    last a b v w e f = omega arith

module _ (t : TimedView) (series : Series) (flow uses : ℕ → ℕ → ℕ) (ticks : ℕ) (are : AreAmounts t series flow uses ticks) (routes : List Route)
    (within : (link : ℕ) → link < length t.platform.links → carried link routes ≤ over_kinds (kinds_of t series) flow link) where
  -- for how long the links at one end are in use
  at_end : (end : ℕ → ℕ) (node : ℕ) →
      total_below (length t.platform.links) (λ k. cond (nat_eq (end k) node) (cost_of t k * carried k routes) 0)
      ≤ over t (λ k. nat_eq (end k) node) (λ k. cost_of t k * over_kinds (kinds_of t series) flow k)
  at_end end node = total_at_most (length t.platform.links) _ _ each
    where
      either : (here : Bool) (c n m : ℕ) → n ≤ m → cond here (c * n) 0 ≤ cond here (c * m) 0
      either true c n m h = mul-le-mul_left c h
      either false c n m h = omega arith

      each : (k : ℕ) → k < length t.platform.links → cond (nat_eq (end k) node) (cost_of t k * carried k routes) 0 ≤ cond (nat_eq (end k) node) (cost_of t k * over_kinds (kinds_of t series) flow k) 0
      each k l = either (nat_eq (end k) node) (cost_of t k) (carried k routes) (over_kinds (kinds_of t series) flow k) (within k l)

  pub are_within : AreWithin (weights_of t routes) ticks
  are_within = record {
    leave = λ node l. (let all = sum_of_terms (λ (e : Edge). cond (nat_eq e.from node) e.weight 0) (edge_of t routes) (length t.platform.links) in let most = at_end (sender_of t) node in let time = are.senders node l in omega (arith, all, most, time));
    enter = λ node l. (let all = sum_of_terms (λ (e : Edge). cond (nat_eq e.to node) e.weight 0) (edge_of t routes) (length t.platform.links) in let most = at_end (receiver_of t) node in let time = are.receivers node l in omega (arith, all, most, time));
  }

-- ---- the ends of the weights

module _ (t : TimedView) (timed : IsTimed t) (routes : List Route) where
  pub exist : Exist (weights_of t routes)
  exist k d l =
      let inside : k < length t.platform.links = rw (length_terms (edge_of t routes) (length t.platform.links)) at l in
      rw (term_there (edge_of t routes) d (length t.platform.links) k inside) (sender_inside t timed k inside, receiver_inside t timed k inside)

  -- a link that exists is in use for at most all ticks
  pub load_in_time : (ticks : ℕ) → AreWithin (weights_of t routes) ticks → (link : ℕ) → link < length t.platform.links → cost_of t link * carried link routes ≤ ticks
  load_in_time ticks are link l =
      let all = sum_of_terms (λ (e : Edge). cond (nat_eq e.from (sender_of t link)) e.weight 0) (edge_of t routes) (length t.platform.links) in
      let one = one_of_total (length t.platform.links) (λ k. cond (nat_eq (sender_of t k) (sender_of t link)) (cost_of t k * carried k routes) 0) link l in
      let same : nat_eq (sender_of t link) (sender_of t link) ≡ true = grind (arith, nat_tests) in
      let time = are.leave (sender_of t link) (sender_inside t timed link l) in
      among _ _ _ (rw same at one) all time
    where
      among : (a b c : ℕ) → a ≤ b → c ≡ b → c ≤ ticks → a ≤ ticks
      among a b c h e k = omega (arith, h, e, k)

-- ---- no two links join the same nodes

module _ (t : TimedView) (timed : IsTimed t) (routes : List Route) where
  abbrev no_edge : Edge
  no_edge = record { from = 0; to = 0; weight = 0 }

  edge_there : (k : ℕ) (e : Edge) → slice_get (weights_of t routes).edges k ≡ Some e → (k < length t.platform.links) × (e ≡ edge_of t routes k)
  edge_there k e is =
      let inside : k < length t.platform.links = rw (length_terms (edge_of t routes) (length t.platform.links)) at (slice_get_within (weights_of t routes).edges k e is) in
      (inside, sym (get_or_from_slice_get (weights_of t routes).edges k e no_edge is) ∙ term_there (edge_of t routes) no_edge (length t.platform.links) k inside)

  differ : (i j : ℕ) → i < j → j < length t.platform.links → sender_of t i ≡ sender_of t j → receiver_of t i ≡ receiver_of t j → ⊥
  differ i j below l e f =
      let no : same_ends (get_or t.platform.links i no_link) (get_or t.platform.links j no_link) ≡ false = apart_from_distinct same_ends t.platform.links i j no_link timed.platform.links_differ below l in
      clash (get_or t.platform.links i no_link) (get_or t.platform.links j no_link) e f no
    where
      clash : (a b : LinkView) → a.from ≡ b.from → a.to ≡ b.to → same_ends a b ≡ false → ⊥
      clash a b g h n =
          let from : nat_eq a.from b.from ≡ true = grind (arith, nat_tests) in
          let to : nat_eq a.to b.to ≡ true = grind (arith, nat_tests) in
          let bad : true ≡ false = rw (from, to) at n in
          absurd cc

  pub are_apart : AreApart (weights_of t routes).edges
  are_apart first second one other is was from to =
      let a = edge_there first one is in
      let b = edge_there second other was in
      let same_from : sender_of t first ≡ sender_of t second = ap (λ (e : Edge). e.from) (sym a.1) ∙ from ∙ ap (λ (e : Edge). e.from) b.1 in
      let same_to : receiver_of t first ≡ receiver_of t second = ap (λ (e : Edge). e.to) (sym a.1) ∙ to ∙ ap (λ (e : Edge). e.to) b.1 in
      elim (cases_order first second) [
        | inl e ↦ e
        | inr (inl below) ↦ absurd (differ first second below b.0 same_from same_to)
        | inr (inr above) ↦ absurd (differ second first above a.0 (sym same_from) (sym same_to))
      ]
