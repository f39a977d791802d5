-- The ruled routes of a flow are one list.
use Rattle.std.proofs.Common.{◌≡◌, ℕ, zero, suc, ◌-◌, ◌<◌, ◌≤◌, min, List, [], ◌∷◌, ◌++◌, length, slice_index, drop, reverse, arith, refl, sym, ap, ap₂, ◌∙◌, subst, subst₂, inl, inr, ext_get_or}
use Rattle.std.proofs.lemmas.Bool.{cases_lt, cases_order, cases_eq}
use Rattle.flow_routes.specs.Flows.{link_at}
use Rattle.flow_routes.specs.Walks.{LeadsBack, node_on, IsFirstEntering, IsBackWalk, IsLeastOn, taken_along}
use Rattle.flow_routes.specs.Rounds.{IsRouteRound, IsCycleRound, AreServed, own_route, IsNodeServed, AreChosenFrom, AreChosen}
use Rattle.flow_routes.specs.declared.flow.Flow.{Flow}
use Rattle.flow_routes.specs.declared.flow.Route.{Route}

-- ---- a walk backward is determined link by link, and ends at one place

first_link : (links : List (ℕ × ℕ)) (amounts : List ℕ) (node a b : ℕ) → IsFirstEntering links amounts node a → IsFirstEntering links amounts node b → a ≡ b
first_link links amounts node a b first also =
    elim (cases_order a b) [
      | inl same ↦ same
      | inr (inl less) ↦ absurd (never _ first.some (also.first a less first.enters_it))
      | inr (inr more) ↦ absurd (never _ also.some (first.first b more also.enters_it))
    ]
  where
    never : (x : ℕ) → 0 < x → x ≡ 0 → ⊥
    never x p q = omega arith

-- the node to which so many links of a walk lead back
abbrev node_after : List (ℕ × ℕ) → ℕ → List ℕ → ℕ → ℕ
node_after links node path zero = node
node_after links node path (suc place) = (link_at links (slice_index path place)).0

after_first : (links : List (ℕ × ℕ)) (node k : ℕ) (ks : List ℕ) (place : ℕ) → node_after links (link_at links k).0 ks place ≡ node_after links node (k ∷ ks) (suc place)
after_first links node k ks zero = refl
after_first links node k ks (suc place) = refl

entered_after : (links : List (ℕ × ℕ)) (node : ℕ) (path : List ℕ) (end place : ℕ) → LeadsBack links node path end → place < length path → node_on links path place ≡ node_after links node path place
entered_after links node [] end place leads l = absurd (omega arith)
entered_after links node (k ∷ ks) end zero leads l = leads.0
entered_after links node (k ∷ ks) end (suc place) leads l = entered_after links (link_at links k).0 ks end place leads.1 (omega arith) ∙ after_first links node k ks place

end_after : (links : List (ℕ × ℕ)) (node : ℕ) (path : List ℕ) (end : ℕ) → LeadsBack links node path end → node_after links node path (length path) ≡ end
end_after links node [] end leads = leads
end_after links node (k ∷ ks) end leads = sym (after_first links node k ks (length ks)) ∙ end_after links (link_at links k).0 ks end leads.1

after_same : (links : List (ℕ × ℕ)) (node : ℕ) (path other : List ℕ) (place : ℕ) → ((earlier : ℕ) → earlier < place → slice_index path earlier ≡ slice_index other earlier) →
    node_after links node path place ≡ node_after links node other place
after_same links node path other zero before = refl
after_same links node path other (suc place) before = ap (λ k. (link_at links k).0) (before place (omega arith))

module _ (master : ℕ) (links : List (ℕ × ℕ)) (amounts : List ℕ) (node : ℕ) where
  module _ (path other : List ℕ) (end at : ℕ) (walk : IsBackWalk master links amounts node path end) (also : IsBackWalk master links amounts node other at) where
    step_same : (place : ℕ) → place < length path → place < length other → ((earlier : ℕ) → earlier < place → slice_index path earlier ≡ slice_index other earlier) → slice_index path place ≡ slice_index other place
    step_same place l k before =
        let same_node : node_on links path place ≡ node_on links other place =
        entered_after links node path end place walk.leads l ∙ after_same links node path other place before ∙ sym (entered_after links node other at place also.leads k) in
        first_link links amounts (node_on links other place) (slice_index path place) (slice_index other place)
        (subst (λ v. IsFirstEntering links amounts v (slice_index path place)) same_node (walk.firsts place l)) (also.firsts place k)

    same_below : (bound : ℕ) → bound ≤ length path → bound ≤ length other → (place : ℕ) → place < bound → slice_index path place ≡ slice_index other place
    same_below zero l k place m = absurd (omega arith)
    same_below (suc bound) l k place m =
        elim (cases_lt place bound) [
          | inl less ↦ same_below bound (omega arith) (omega arith) place less
          | inr more ↦ step_same place (omega arith) (omega arith) (λ earlier n. same_below bound (omega arith) (omega arith) earlier (omega arith))
        ]

    -- a walk that ends goes no further in another: the master is on none, and a node that it has met is on it once
    not_longer : length path < length other → ⊥
    not_longer l =
        let there : node_on links other (length path) ≡ end =
        entered_after links node other at (length path) also.leads l ∙ sym (after_same links node path other (length path) (same_below (length path) (omega arith) (omega arith))) ∙ end_after links node path end walk.leads in
        elim (cases_eq end master) [
          | inl ends ↦ also.no_master (length path) l (there ∙ ends)
          | inr apart ↦ met there (walk.ends apart)
        ]
      where
        met : node_on links other (length path) ≡ end → (place : ℕ) × (place < length path) × (node_on links path place ≡ end) → ⊥
        met there m =
            let same : node_on links path m.0 ≡ node_on links other m.0 = ap (λ k. (link_at links k).1) (same_below (length path) (omega arith) (omega arith) m.0 m.1) in
            let again : m.0 ≡ length path = also.differ m.0 (length path) (inside m.0 m.1) l (sym same ∙ m.2 ∙ sym there) in
            past m.0 m.1 again
          where
            inside : (place : ℕ) → place < length path → place < length other
            inside place k = omega arith

            past : (place : ℕ) → place < length path → place ≡ length path → ⊥
            past place k e = omega arith

  module _ (path other : List ℕ) (end at : ℕ) (walk : IsBackWalk master links amounts node path end) (also : IsBackWalk master links amounts node other at) where
    as_long : length path ≡ length other
    as_long =
        elim (cases_order (length path) (length other)) [
          | inl same ↦ same
          | inr (inl less) ↦ absurd (not_longer path other end at walk also less)
          | inr (inr more) ↦ absurd (not_longer other path at end also walk more)
        ]

    walk_is_one : path ≡ other
    walk_is_one = ext_get_or 0 path other as_long (λ place l. same_below path other end at walk also (length path) (omega arith) (omega (arith, as_long)) place l)

    end_is_one : end ≡ at
    end_is_one = sym (end_after links node path end walk.leads) ∙ ap (λ p. node_after links node p (length p)) walk_is_one ∙ end_after links node other at also.leads

-- ---- a round is determined: its route, or the cycle that loses its least amount

least_on_one : (amounts path : List ℕ) (a b : ℕ) → IsLeastOn amounts path a → IsLeastOn amounts path b → a ≡ b
least_on_one amounts path a b least also = omega (arith, least.at_most also.place also.inside, also.reached, also.at_most least.place least.inside, least.reached)

abbrev route_of : List ℕ → ℕ → ℕ → ℕ → Route
route_of links end count kind = record { links = links; end = end; count = count; kind = kind }

module _ (master kind : ℕ) (links : List (ℕ × ℕ)) (amounts : List ℕ) (node : ℕ) where
  route_round_one : (demand : ℕ) (route other : Route) (left also_left : List ℕ) → IsRouteRound master kind links amounts demand node route left → IsRouteRound master kind links amounts demand node other also_left → (route ≡ other) × (left ≡ also_left)
  route_round_one demand route other left also_left round also =
      let same_path : round.path ≡ also.path = walk_is_one master links amounts node round.path also.path master master round.walk also.walk in
      let same_least : round.least ≡ also.least = least_on_one amounts round.path round.least also.least round.is_least (subst (λ p. IsLeastOn amounts p also.least) (sym same_path) also.is_least) in
      let same_count : route.count ≡ other.count = round.count ∙ ap (λ n. min n demand) same_least ∙ sym also.count in
      let same_links : route.links ≡ other.links = round.turned ∙ ap reverse same_path ∙ sym also.turned in
      let same_end : route.end ≡ other.end = round.ends ∙ sym also.ends in
      let same_kind : route.kind ≡ other.kind = round.same_kind ∙ sym also.same_kind in (
        ap₂ (λ (ls : List ℕ) (e : ℕ). route_of ls e route.count route.kind) same_links same_end ∙ ap₂ (λ (c k : ℕ). route_of other.links other.end c k) same_count same_kind,
        round.taken ∙ ap₂ (λ (p : List ℕ) (c : ℕ). taken_along amounts p c) same_path same_count ∙ sym also.taken,
      )

  cycle_round_one : (left also_left : List ℕ) → IsCycleRound master links amounts node left → IsCycleRound master links amounts node also_left → left ≡ also_left
  cycle_round_one left also_left round also =
      let same_path : round.path ≡ also.path = walk_is_one master links amounts node round.path also.path round.end also.end round.walk also.walk in
      let same_end : round.end ≡ also.end = end_is_one master links amounts node round.path also.path round.end also.end round.walk also.walk in
      let also_inside : also.begin < length round.path = subst (λ p. also.begin < length p) (sym same_path) also.inside in
      let same_met : node_on links round.path round.begin ≡ node_on links round.path also.begin = round.met ∙ same_end ∙ sym also.met ∙ ap (λ p. node_on links p also.begin) (sym same_path) in
      let same_begin : round.begin ≡ also.begin = round.walk.differ round.begin also.begin round.inside also_inside same_met in
      let same_cycle : drop round.begin round.path ≡ drop also.begin also.path = ap₂ (λ (b : ℕ) (p : List ℕ). drop b p) same_begin same_path in
      let same_least : round.least ≡ also.least =
      least_on_one amounts (drop round.begin round.path) round.least also.least round.is_least (subst (λ p. IsLeastOn amounts p also.least) (sym same_cycle) also.is_least) in
      round.taken ∙ ap₂ (λ (p : List ℕ) (n : ℕ). taken_along amounts p n) same_cycle same_least ∙ sym also.taken

  -- a walk that ends at the master has not met a node on it
  not_both : (demand : ℕ) (route : Route) (left also_left : List ℕ) → IsRouteRound master kind links amounts demand node route left → IsCycleRound master links amounts node also_left → ⊥
  not_both demand route left also_left round also =
      also.walk.no_master also.begin also.inside (also.met ∙ end_is_one master links amounts node also.path round.path also.end master also.walk round.walk)

-- ---- so are all rounds of a node, and all nodes of a flow

module _ (master kind : ℕ) (links : List (ℕ × ℕ)) (node : ℕ) where
  served_one : (rounds others : ℕ) (after also_after amounts : List ℕ) (demand : ℕ) (routes also_routes : List Route) →
      AreServed rounds master kind links node after amounts demand routes → AreServed others master kind links node also_after amounts demand also_routes → (routes ≡ also_routes) × (after ≡ also_after)
  served_one zero zero after also_after amounts demand routes also_routes served also = (served.1 ∙ sym also.1, served.2 ∙ sym also.2)
  served_one zero (suc others) after also_after amounts demand routes also_routes served also = absurd (omega (arith, served.0, also.0))
  served_one (suc rounds) zero after also_after amounts demand routes also_routes served also = absurd (omega (arith, served.0, also.0))
  served_one (suc rounds) (suc others) after also_after amounts demand routes also_routes (some, inl step) (also_some, inl also) =
      let same = route_round_one master kind links amounts node demand step.route also.route step.left also.left step.round also.round in
      let more : AreServed others master kind links node also_after step.left (demand - step.route.count) also.rest =
      subst₂ (λ (l : List ℕ) (r : Route). AreServed others master kind links node also_after l (demand - r.count) also.rest) (sym same.1) (sym same.0) also.more in
      let rest = served_one rounds others after also_after step.left (demand - step.route.count) step.rest also.rest step.more more in
      (step.first ∙ ap₂ (λ (r : Route) (rs : List Route). r ∷ rs) same.0 rest.0 ∙ sym also.first, rest.1)
  served_one (suc rounds) (suc others) after also_after amounts demand routes also_routes (some, inl step) (also_some, inr also) =
      absurd (not_both master kind links amounts node demand step.route step.left also.left step.round also.round)
  served_one (suc rounds) (suc others) after also_after amounts demand routes also_routes (some, inr step) (also_some, inl also) =
      absurd (not_both master kind links amounts node demand also.route also.left step.left also.round step.round)
  served_one (suc rounds) (suc others) after also_after amounts demand routes also_routes (some, inr step) (also_some, inr also) =
      let same = cycle_round_one master kind links amounts node step.left also.left step.round also.round in
      served_one rounds others after also_after step.left demand routes also_routes step.more (subst (λ l. AreServed others master kind links node also_after l demand also_routes) (sym same) also.more)

  node_one : (demand : ℕ) (amounts : List ℕ) (routes also_routes : List Route) (after also_after : List ℕ) →
      IsNodeServed master kind links node demand amounts routes after → IsNodeServed master kind links node demand amounts also_routes also_after → (routes ≡ also_routes) × (after ≡ also_after)
  node_one demand amounts routes also_routes after also_after here also =
      elim (cases_eq node master) [
        | inl same ↦ both (here.own same) (also.own same)
        | inr apart ↦ served_one here.rounds also.rounds after also_after amounts demand routes also_routes (here.served apart) (also.served apart)
      ]
    where
      both : (routes ≡ own_route kind node demand) × (after ≡ amounts) → (also_routes ≡ own_route kind node demand) × (also_after ≡ amounts) → (routes ≡ also_routes) × (after ≡ also_after)
      both own also_own = (own.0 ∙ sym also_own.0, own.1 ∙ sym also_own.1)

chosen_from_one : (left : ℕ) (f : Flow) (kind node : ℕ) (amounts : List ℕ) (routes others : List Route) → AreChosenFrom left f kind node amounts routes → AreChosenFrom left f kind node amounts others → routes ≡ others
chosen_from_one zero f kind node amounts routes others none also = none ∙ sym also
chosen_from_one (suc left) f kind node amounts routes others step also =
    let same = node_one f.master kind f.links node (slice_index f.demands node) amounts step.own also.own step.after also.after step.here also.here in
    let rest = chosen_from_one left f kind (suc node) step.after step.rest also.rest step.more (subst (λ a. AreChosenFrom left f kind (suc node) a also.rest) (sym same.1) also.more) in
    step.parts ∙ ap₂ (λ (own behind : List Route). own ++ behind) same.0 rest ∙ sym also.parts

pub routes_are_one : (f : Flow) (kind : ℕ) (routes others : List Route) → AreChosen f kind routes → AreChosen f kind others → routes ≡ others
routes_are_one f kind routes others chosen also = chosen_from_one f.nodes f kind 0 f.amounts routes others chosen also
