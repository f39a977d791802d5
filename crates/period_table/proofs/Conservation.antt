-- What comes to a node over a route in a period leaves it, or ends there, in the next.
use Rattle.std.proofs.Common.{◌≡◌, ℕ, suc, ◌+◌, Bool, true, false, ◌&&◌, cond, nat_eq, nat_le, List, [], ◌∷◌, length, refl, ◌∙◌, ap, arith, All, sum_by}
use Rattle.std.proofs.lemmas.Bool.Decides.{nat_tests}
use Rattle.std.proofs.lemmas.List.Elements.{All-head, All-tail}
use Rattle.std.proofs.lemmas.List.Sums.{sum_by-cons, sum_by-append}
use Rattle.platform_file.specs.Ticks.{TimedView}
use Rattle.schedule_model.specs.Operations.{sender_of, receiver_of}
use Rattle.flow_routes.specs.declared.flow.Route.{Route}
use Rattle.period_table.specs.Lanes.{LaneAt, lanes_of, lanes_from}
use Rattle.period_table.specs.Tables.{first_node, IsWalk}
use Rattle.period_table.proofs.Counts.{sum_same}

-- what a lane carries in a period, and what it carried in the period before
abbrev pub now : (LaneAt → Bool) → ℕ → LaneAt → ℕ
now pass period lane = cond (nat_le lane.hop period && pass lane) lane.count 0

abbrev pub before : (LaneAt → Bool) → ℕ → LaneAt → ℕ
before pass period lane = cond (nat_le (lane.hop + 1) period && pass lane) lane.count 0

module _ (t : TimedView) (node : ℕ) (counts : ℕ → Bool) where
  -- lanes of the counted kinds that leave the node, and that enter it
  abbrev pub leaves : LaneAt → Bool
  leaves lane = counts lane.kind && nat_eq (sender_of t lane.link) node

  abbrev pub enters : LaneAt → Bool
  enters lane = counts lane.kind && nat_eq (receiver_of t lane.link) node

  -- what ends at the node
  abbrev pub ends : ℕ → Route → ℕ
  ends period route = cond (nat_le (length route.links) period && (counts route.kind && nat_eq route.end node)) route.count 0

  conserved : (kind count hop end period : ℕ) (links : List ℕ) → IsWalk t links end →
      sum_by (now leaves period) (lanes_from kind count hop links) + cond (nat_le (hop + length links) period && (counts kind && nat_eq end node)) count 0
      ≡ cond (nat_le hop period && (counts kind && nat_eq (first_node t links end) node)) count 0 + sum_by (before enters period) (lanes_from kind count hop links)
  conserved kind count hop end period [] walk = let e : hop + 0 ≡ hop = omega arith in rw e (omega arith)
  conserved kind count hop end period (link ∷ links) walk =
      let e : hop + suc (length links) ≡ hop + 1 + length links = omega arith in
      rw e (
      step _ _ _ _ _ _ _ _
      (sum_by-cons (now leaves period) (record { link = link; hop = hop; kind = kind; count = count }) (lanes_from kind count (hop + 1) links))
      (sum_by-cons (before enters period) (record { link = link; hop = hop; kind = kind; count = count }) (lanes_from kind count (hop + 1) links))
      (conserved kind count (hop + 1) end period links walk.3)
      (ap (λ (n : ℕ). cond (nat_le (hop + 1) period && (counts kind && nat_eq n node)) count 0) walk.1)
      )
    where
      step : (s s' r r' a b c f : ℕ) → s ≡ a + s' → r ≡ b + r' → s' + c ≡ f + r' → b ≡ f → s + c ≡ a + r
      step s s' r r' a b c f g h i j = omega arith

  -- a walk that doesn't begin at the node with a counted kind
  pub record BeginsElsewhere (route : Route) : Type 0 where
    pub walk : IsWalk t route.links route.end
    pub elsewhere : (counts route.kind && nat_eq (first_node t route.links route.end) node) ≡ false

  route_conserved : (period : ℕ) (route : Route) → BeginsElsewhere route →
      sum_by (now leaves period) (lanes_from route.kind route.count 0 route.links) + ends period route ≡ sum_by (before enters period) (lanes_from route.kind route.count 0 route.links)
  route_conserved period route begins =
      let c = conserved route.kind route.count 0 route.end period route.links begins.walk in
      let e : 0 + length route.links ≡ length route.links = omega arith in
      let first : cond (nat_le 0 period && (counts route.kind && nat_eq (first_node t route.links route.end) node)) route.count 0 ≡ 0 =
      rw begins.elsewhere (never (nat_le 0 period) route.count) in
      from_all _ _ _ _ _ c (ap (λ (n : ℕ). cond (nat_le n period && (counts route.kind && nat_eq route.end node)) route.count 0) e) first
    where
      never : (b : Bool) (n : ℕ) → cond (b && false) n 0 ≡ 0
      never true n = refl
      never false n = refl

      from_all : (s c f r d : ℕ) → s + c ≡ f + r → c ≡ d → f ≡ 0 → s + d ≡ r
      from_all s c f r d g h i = omega arith

  -- over all routes: what leaves the node or ends there came to it in the period before
  pub routes_conserved : (period : ℕ) (routes : List Route) → All BeginsElsewhere routes →
      sum_by (now leaves period) (lanes_of routes) + sum_by (ends period) routes ≡ sum_by (before enters period) (lanes_of routes)
  routes_conserved period [] h = refl
  routes_conserved period (route ∷ routes) h =
      step _ _ _ _ _ _ _ _ _
      (sum_by-append (now leaves period) (lanes_from route.kind route.count 0 route.links) (lanes_of routes))
      (sum_by-cons (ends period) route routes)
      (sum_by-append (before enters period) (lanes_from route.kind route.count 0 route.links) (lanes_of routes))
      (route_conserved period route (All-head BeginsElsewhere route routes h))
      (routes_conserved period routes (All-tail BeginsElsewhere route routes h))
    where
      step : (s a s' e b e' r c r' : ℕ) → s ≡ a + s' → e ≡ b + e' → r ≡ c + r' → a + b ≡ c → s' + e' ≡ r' → s + e ≡ r
      step s a s' e b e' r c r' f g h i j = omega arith

-- what a lane carried in the period before a period
pub before_next : (pass : LaneAt → Bool) (period : ℕ) (lanes : List LaneAt) → sum_by (before pass (suc period)) lanes ≡ sum_by (now pass period) lanes
before_next pass period lanes = sum_same (before pass (suc period)) (now pass period) lanes (λ lane. ap (λ b. cond (b && pass lane) lane.count 0) (one_more lane.hop period))
  where
    one_more : (hop period : ℕ) → nat_le (hop + 1) (suc period) ≡ nat_le hop period
    one_more hop period = grind (arith, nat_tests)

pub before_first : (pass : LaneAt → Bool) (lanes : List LaneAt) → sum_by (before pass 0) lanes ≡ 0
before_first pass [] = refl
before_first pass (lane ∷ lanes) = sum_by-cons (before pass 0) lane lanes ∙ rw (none lane.hop, before_first pass lanes) refl
  where
    none : (hop : ℕ) → nat_le (hop + 1) 0 ≡ false
    none hop = grind (arith, nat_tests)
