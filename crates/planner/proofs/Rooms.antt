-- What is scaled up and divided by the common factor keeps its proportions: the parts have time for exactly what the routes carry.
use Rattle.std.proofs.Common.{◌≡◌, ℕ, ◌+◌, ◌*◌, ◌/◌, ◌≤◌, Bool, true, false, cond, nat_eq, List, [], ◌∷◌, map, All, count_by, sum_by, sym, ap, ◌∙◌, arith, inl, inr}
use Prim.Native.Nat.{◌∣◌}
use Rattle.std.specs.List.{list_any}
use Rattle.std.proofs.Math.Nat.{mul_assoc, mul_comm, div-mul_cancel, dvd-mul_left_of_dvd, mul-le-mul_left, le_of_mul-le-mul_right}
use Rattle.std.proofs.lemmas.Bool.Decides.{nat_tests}
use Rattle.std.proofs.lemmas.List.Elements.{All-head, All-tail}
use Rattle.std.proofs.lemmas.List.Sums.{sum_by-cons}
use Rattle.platform_file.specs.Ticks.{TimedView}
use Rattle.schedule_model.specs.Operations.{cost_of}
use Rattle.flow_routes.specs.Routes.{carried}
use Rattle.flow_routes.specs.declared.flow.Route.{Route}
use Rattle.bipartite_slots.specs.Parts.{is_in}
use Rattle.bipartite_slots.specs.declared.weights.SlotPart.{SlotPart}
use Rattle.period_table.specs.Cuts.{room_in, room_of}
use Rattle.series_routes.specs.Routings.{tasks_of_kind}
use Rattle.planner.specs.Scales.{part_numbers, scaled_route, scaled_part}
use Rattle.series_flows.proofs.Terms.{true_or_false}
use Rattle.planner.proofs.Divided.{exchanged}
use Rattle.series_routes.proofs.Multiples.{each_mapped}

-- what holds of all items holds of one that is found
pub found_in : (P : ℕ → Type 0) (xs : List ℕ) → All P xs → (q : ℕ) → list_any (nat_eq q) xs ≡ true → P q
found_in P [] all q e = let bad : false ≡ true = e in absurd cc
found_in P (x ∷ xs) all q e =
    elim (true_or_false (nat_eq q x)) [
      | inl same ↦ let is : q ≡ x = grind (arith, nat_tests) in rw is (All-head P x xs all)
      | inr other ↦ found_in P xs (All-tail P x xs all) q (rw other at e)
    ]

-- sums of what is changed, item by item, in one proportion
pub scaled_sum : {A : Type 0} (Fine : A → Type 0) (change : A → A) (f h : A → ℕ) (g times : ℕ) → ((x : A) → Fine x → f (change x) * g ≡ h x * times) → (xs : List A) → All Fine xs →
    sum_by f (map change xs) * g ≡ sum_by h xs * times
scaled_sum Fine change f h g times each [] fine = omega arith
scaled_sum Fine change f h g times each (x ∷ xs) fine =
    both _ _ _ _ _ _ (sum_by-cons f (change x) (map change xs)) (sum_by-cons h x xs) (each x (All-head Fine x xs fine)) (scaled_sum Fine change f h g times each xs (All-tail Fine x xs fine))
  where
    both : (a b c d v w : ℕ) → a ≡ v + b → c ≡ w + d → v * g ≡ w * times → b * g ≡ d * times → a * g ≡ c * times
    both a b c d v w e i k l =
        let left : a * g ≡ (v + b) * g = ap (λ n. n * g) e in
        let right : c * times ≡ (w + d) * times = ap (λ n. n * times) i in
        omega (arith, left, right, k, l)

module _ (times g : ℕ) where
  abbrev Whole : Route → Type 0
  Whole route = g ∣ route.count * times

  one_count : (route : Route) → Whole route → (scaled_route times g route).count * g ≡ route.count * times
  one_count route whole = div-mul_cancel g whole

  some_count : (test : Bool) (route : Route) → Whole route → cond test (scaled_route times g route).count 0 * g ≡ cond test route.count 0 * times
  some_count true route whole = one_count route whole
  some_count false route whole = omega arith

  -- all counts of a period, those of a kind, those that come to a node, and those over a link
  pub counts_scaled : (routes : List Route) → All Whole routes → sum_by (λ (route : Route). route.count) (map (scaled_route times g) routes) * g ≡ sum_by (λ (route : Route). route.count) routes * times
  counts_scaled routes whole = scaled_sum Whole (scaled_route times g) (λ route. route.count) (λ route. route.count) g times one_count routes whole

  pub kinds_scaled : (kind : ℕ) (routes : List Route) → All Whole routes → tasks_of_kind kind (map (scaled_route times g) routes) * g ≡ tasks_of_kind kind routes * times
  kinds_scaled kind routes whole =
      scaled_sum Whole (scaled_route times g) (λ route. cond (nat_eq route.kind kind) route.count 0) (λ route. cond (nat_eq route.kind kind) route.count 0) g times
      (λ route w. some_count (nat_eq route.kind kind) route w) routes whole

  pub ends_scaled : (node : ℕ) (routes : List Route) → All Whole routes →
      sum_by (λ (route : Route). cond (nat_eq route.end node) route.count 0) (map (scaled_route times g) routes) * g ≡ sum_by (λ (route : Route). cond (nat_eq route.end node) route.count 0) routes * times
  ends_scaled node routes whole =
      scaled_sum Whole (scaled_route times g) (λ route. cond (nat_eq route.end node) route.count 0) (λ route. cond (nat_eq route.end node) route.count 0) g times
      (λ route w. some_count (nat_eq route.end node) route w) routes whole

  pub carried_scaled : (link : ℕ) (routes : List Route) → All Whole routes → carried link (map (scaled_route times g) routes) * g ≡ carried link routes * times
  carried_scaled link routes whole =
      scaled_sum Whole (scaled_route times g) (λ route. count_by (nat_eq link) route.links * route.count) (λ route. count_by (nat_eq link) route.links * route.count) g times
      (λ route w. mul_assoc (count_by (nat_eq link) route.links) (scaled_route times g route).count g ∙ ap (λ n. count_by (nat_eq link) route.links * n) (one_count route w)
      ∙ sym (mul_assoc (count_by (nat_eq link) route.links) route.count times)) routes whole

  module _ (t : TimedView) where
    abbrev Fits : SlotPart → Type 0
    Fits part = All (λ n. g ∣ n) (part_numbers t times part)

    -- a part's ticks, and the tasks that a link has time for in it
    pub ticks_scaled : (part : SlotPart) → Fits part → (scaled_part times g part).duration * g ≡ part.duration * times
    ticks_scaled part fits = div-mul_cancel g (All-head (λ n. g ∣ n) (part.duration * times) _ fits)

    room_scaled : (link : ℕ) → cost_of t link ∣ times → (part : SlotPart) → Fits part → room_in t (scaled_part times g part) link * (g * cost_of t link) ≡ cond (is_in link part) part.duration 0 * times
    room_scaled link divides part fits =
        elim (true_or_false (is_in link part)) [
          | inl here ↦
              let whole : g ∣ part.duration * times / cost_of t link =
              found_in (λ k. g ∣ part.duration * times / cost_of t k) part.edges (each_mapped (λ n. g ∣ n) (λ k. part.duration * times / cost_of t k) part.edges (All-tail (λ n. g ∣ n) (part.duration * times) _ fits)) link here in
              rw here
              (ap (λ n. n * (g * cost_of t link)) (exchanged (part.duration * times) g (cost_of t link))
              ∙ sym (mul_assoc (part.duration * times / cost_of t link / g) g (cost_of t link))
              ∙ ap (λ n. n * cost_of t link) (div-mul_cancel g whole)
              ∙ div-mul_cancel (cost_of t link) (dvd-mul_left_of_dvd (cost_of t link) divides part.duration))
          | inr away ↦ rw away (none (g * cost_of t link) times)
        ]
      where
        none : (a b : ℕ) → 0 * a ≡ 0 * b
        none a b = omega arith

    rooms_scaled : (link : ℕ) → cost_of t link ∣ times → (parts : List SlotPart) → All Fits parts →
        room_of t link (map (scaled_part times g) parts) * (g * cost_of t link) ≡ sum_by (λ (part : SlotPart). cond (is_in link part) part.duration 0) parts * times
    rooms_scaled link divides parts fits =
        scaled_sum Fits (scaled_part times g) (λ part. room_in t part link) (λ (part : SlotPart). cond (is_in link part) part.duration 0) (g * cost_of t link) times (room_scaled link divides) parts fits

    -- where a link is served for as long as it needs, it has time for just what it carries
    pub room_enough : (link load : ℕ) → 1 ≤ g → 1 ≤ cost_of t link → cost_of t link ∣ times → (parts : List SlotPart) → All Fits parts →
        sum_by (λ (part : SlotPart). cond (is_in link part) part.duration 0) parts ≡ cost_of t link * load → (scaled : ℕ) → scaled * g ≡ load * times →
        scaled ≤ room_of t link (map (scaled_part times g) parts)
    room_enough link load some_g some_cost divides parts fits served scaled e =
        enough _ _ _ _ some_g some_cost (rooms_scaled link divides parts fits ∙ ap (λ n. n * times) served) e
      where
        enough : (room g cost scaled : ℕ) → 1 ≤ g → 1 ≤ cost → room * (g * cost) ≡ cost * load * times → scaled * g ≡ load * times → scaled ≤ room
        enough room g cost scaled some_g some_cost r s =
            let same : scaled * (g * cost) ≡ cost * load * times =
            sym (mul_assoc scaled g cost) ∙ ap (λ n. n * cost) s ∙ mul_comm (load * times) cost ∙ sym (mul_assoc cost load times) in
            let positive : 1 * 1 ≤ g * cost = both some_g some_cost in
            le_of_mul-le-mul_right {k = g * cost} (omega (arith, r, same)) (omega (arith, positive))
          where
            both : 1 ≤ g → 1 ≤ cost → 1 * 1 ≤ g * cost
            both a b = let more : g * 1 ≤ g * cost = mul-le-mul_left g b in omega (arith, more, a)

    -- the ticks of all parts
    pub all_ticks_scaled : (parts : List SlotPart) → All Fits parts → sum_by (λ (part : SlotPart). part.duration) (map (scaled_part times g) parts) * g ≡ sum_by (λ (part : SlotPart). part.duration) parts * times
    all_ticks_scaled parts fits = scaled_sum Fits (scaled_part times g) (λ part. part.duration) (λ part. part.duration) g times ticks_scaled parts fits
