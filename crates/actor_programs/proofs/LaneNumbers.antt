-- The lanes of routes: what a lane's number says of its route, and of the lane after it.
use Rattle.std.proofs.Common.{◌≡◌, ℕ, zero, suc, ◌+◌, ◌-◌, ◌*◌, ◌<◌, ◌≤◌, ◌⊎◌, true, false, nat_eq, nat_lt, List, [], ◌∷◌, ◌++◌, length, sym, refl, ap, ◌∙◌, inl, inr, ⊎_elim, subst, arith, All, take, min, max, slice_index_or, length-append}
use Rattle.std.specs.List.{list_any}
use Rattle.std.proofs.lemmas.Bool.{cases_lt, eq-eqb, or_left, or_right}
use Rattle.std.proofs.lemmas.Bool.Decides.{nat_tests}
use Rattle.std.proofs.lemmas.List.{get_or-append_right}
use Rattle.std.proofs.lemmas.List.Elements.{All-head, All-tail}
use Rattle.flow_routes.specs.declared.flow.Route.{Route}
use Rattle.period_table.specs.Lanes.{LaneAt, lanes_of, lanes_from, lane_at}
use Rattle.actor_programs.specs.Tasks.{all_tasks, count_of, route_tasks, route_of, offset_at, end_at}
use Rattle.actor_programs.specs.Programs.{capacity_of}
use Rattle.period_table.specs.declared.table.Table.{Table}
use Rattle.std.proofs.lemmas.List.Sums.{sum_by-cons}

length-from : (kind count hop : ℕ) (links : List ℕ) → length (lanes_from kind count hop links) ≡ length links
length-from kind count hop [] = refl
length-from kind count hop (link ∷ links) = ap suc (length-from kind count (hop + 1) links)

pub length-lanes : (route : Route) (routes : List Route) → length (lanes_of (route ∷ routes)) ≡ length route.links + length (lanes_of routes)
length-lanes route routes =
    omega (arith, length-append (lanes_from route.kind route.count 0 route.links) (lanes_of routes), length-from route.kind route.count 0 route.links)

from_at : (kind count hop h : ℕ) (links : List ℕ) (rest : List LaneAt) (k : ℕ) → k < length links → h ≡ hop + k
    → lane_at (lanes_from kind count hop links ++ rest) k ≡ record { link = slice_index_or links k 0; hop = h; kind = kind; count = count }
from_at kind count hop h [] rest k l e = absurd (omega arith)
from_at kind count hop h (link ∷ links) rest zero l e =
    let same : hop ≡ h = omega arith in rw same refl
from_at kind count hop h (link ∷ links) rest (suc k) l e = from_at kind count (hop + 1) h links rest k (omega arith) (omega arith)

-- a lane of the first route
pub inside : (route : Route) (routes : List Route) (k : ℕ) → k < length route.links
    → lane_at (lanes_of (route ∷ routes)) k ≡ record { link = slice_index_or route.links k 0; hop = k; kind = route.kind; count = route.count }
inside route routes k l = from_at route.kind route.count 0 k route.links (lanes_of routes) k l (omega arith)

-- a lane of a later one
pub beyond : (route : Route) (routes : List Route) (k : ℕ) → length route.links ≤ k
    → lane_at (lanes_of (route ∷ routes)) k ≡ lane_at (lanes_of routes) (k - length route.links)
beyond route routes k l =
    get_or-append_right (lanes_from route.kind route.count 0 route.links) (lanes_of routes) (length route.links) k
    (record { link = 0; hop = 0; kind = 0; count = 0 }) (length-from route.kind route.count 0 route.links) l

pub offset_inside : (route : Route) (routes : List Route) (k : ℕ) → k < length route.links → offset_at (route ∷ routes) k ≡ 0
offset_inside route routes k l = let yes : nat_lt k (length route.links) ≡ true = grind (arith, nat_tests) in rw yes refl

pub offset_beyond : (route : Route) (routes : List Route) (k : ℕ) → length route.links ≤ k
    → offset_at (route ∷ routes) k ≡ route.count + offset_at routes (k - length route.links)
offset_beyond route routes k l =
    let no : nat_lt k (length route.links) ≡ false = grind (arith, nat_tests) in
    rw no (sum_by-cons (λ (r : Route). r.count) route (take (route_of routes (k - length route.links)) routes))

pub end_inside : (route : Route) (routes : List Route) (k : ℕ) → k < length route.links → end_at (route ∷ routes) k ≡ route.end
end_inside route routes k l = let yes : nat_lt k (length route.links) ≡ true = grind (arith, nat_tests) in rw yes refl

pub end_beyond : (route : Route) (routes : List Route) (k : ℕ) → length route.links ≤ k
    → end_at (route ∷ routes) k ≡ end_at routes (k - length route.links)
end_beyond route routes k l = let no : nat_lt k (length route.links) ≡ false = grind (arith, nat_tests) in rw no refl

pub route_inside : (route : Route) (routes : List Route) (k : ℕ) → k < length route.links → route_of (route ∷ routes) k ≡ 0
route_inside route routes k l = let yes : nat_lt k (length route.links) ≡ true = grind (arith, nat_tests) in rw yes refl

pub route_beyond : (route : Route) (routes : List Route) (k : ℕ) → length route.links ≤ k
    → route_of (route ∷ routes) k ≡ suc (route_of routes (k - length route.links))
route_beyond route routes k l = let no : nat_lt k (length route.links) ≡ false = grind (arith, nat_tests) in rw no refl

-- a lane's count is its route's
pub count_at : (routes : List Route) (k : ℕ) → count_of routes (route_of routes k) ≡ (lane_at (lanes_of routes) k).count
count_at [] k = refl
count_at (route ∷ routes) k = elim (cases_lt k (length route.links)) [
  | inl here ↦ ap (count_of (route ∷ routes)) (route_inside route routes k here) ∙ sym (ap (λ (l : LaneAt). l.count) (inside route routes k here))
  | inr later ↦
      ap (count_of (route ∷ routes)) (route_beyond route routes k later)
      ∙ count_at routes (k - length route.links)
      ∙ sym (ap (λ (l : LaneAt). l.count) (beyond route routes k later))
]

pub lane_list : (table : Table) (chunks k : ℕ)
    → route_tasks table chunks (route_of table.routes k) ≡ all_tasks table.tasks chunks (offset_at table.routes k) (lane_at (lanes_of table.routes) k).count
lane_list table chunks k = ap (all_tasks table.tasks chunks (offset_at table.routes k)) (count_at table.routes k)

pub capacity_is : (table : Table) (chunks k : ℕ) → capacity_of table chunks k ≡ max 1 (min (2 * (lane_at (lanes_of table.routes) k).count)
    (length (all_tasks table.tasks chunks (offset_at table.routes k) (lane_at (lanes_of table.routes) k).count)))
capacity_is table chunks k =
    ap (λ n. max 1 (min (2 * n) (length (all_tasks table.tasks chunks (offset_at table.routes k) n)))) (count_at table.routes k)

-- the first lane of all begins its route
pub first_hop : (routes : List Route) → (lane_at (lanes_of routes) 0).hop ≡ 0
first_hop [] = refl
first_hop (route ∷ routes) = elim (cases_lt 0 (length route.links)) [
  | inl some ↦ ap (λ (l : LaneAt). l.hop) (inside route routes 0 some)
  | inr empty ↦
      let e : 0 - length route.links ≡ 0 = omega arith in
      ap (λ (l : LaneAt). l.hop) (beyond route routes 0 empty ∙ ap (lane_at (lanes_of routes)) e) ∙ first_hop routes
]

-- the lane after a lane begins a route, or goes on with its route
pub record GoesOn (routes : List Route) (k : ℕ) : Type 0 where
  pub exists : k + 1 < length (lanes_of routes)
  pub hop : (lane_at (lanes_of routes) (k + 1)).hop ≡ (lane_at (lanes_of routes) k).hop + 1
  pub count : (lane_at (lanes_of routes) (k + 1)).count ≡ (lane_at (lanes_of routes) k).count
  pub offset : offset_at routes (k + 1) ≡ offset_at routes k

pub next_lane : (routes : List Route) (k : ℕ) → ((lane_at (lanes_of routes) (k + 1)).hop ≡ 0) ⊎ GoesOn routes k
next_lane [] k = inl refl
next_lane (route ∷ routes) k = elim (cases_lt (k + 1) (length route.links)) [
  | inl more ↦
      let here = inside route routes k (omega (arith, more)) in
      let next = inside route routes (k + 1) more in
      inr (record {
        exists = omega (arith, more, length-lanes route routes);
        hop = ap (λ (l : LaneAt). l.hop) next ∙ sym (ap (λ (l : LaneAt). l.hop + 1) here);
        count = ap (λ (l : LaneAt). l.count) next ∙ sym (ap (λ (l : LaneAt). l.count) here);
        offset = offset_inside route routes (k + 1) more ∙ sym (offset_inside route routes k (omega (arith, more)));
      })
  | inr past ↦ elim (cases_lt k (length route.links)) [
    | inl last ↦
        let e : (k + 1) - length route.links ≡ 0 = omega (arith, past, last) in
        inl (ap (λ (l : LaneAt). l.hop) (beyond route routes (k + 1) past ∙ ap (lane_at (lanes_of routes)) e) ∙ first_hop routes)
    | inr later ↦
        let e : (k + 1) - length route.links ≡ (k - length route.links) + 1 = omega (arith, later) in
        let here = beyond route routes k later in
        let next : lane_at (lanes_of (route ∷ routes)) (k + 1) ≡ lane_at (lanes_of routes) ((k - length route.links) + 1) = beyond route routes (k + 1) past ∙ ap (lane_at (lanes_of routes)) e in
        ⊎_elim
        (λ (first : (lane_at (lanes_of routes) ((k - length route.links) + 1)).hop ≡ 0). inl (ap (λ (l : LaneAt). l.hop) next ∙ first))
        (λ (on : GoesOn routes (k - length route.links)). inr (record {
          exists = omega (arith, on.exists, length-lanes route routes, later);
          hop = ap (λ (l : LaneAt). l.hop) next ∙ on.hop ∙ sym (ap (λ (l : LaneAt). l.hop + 1) here);
          count = ap (λ (l : LaneAt). l.count) next ∙ on.count ∙ sym (ap (λ (l : LaneAt). l.count) here);
          offset = offset_beyond route routes (k + 1) past ∙ ap (λ (x : ℕ). route.count + offset_at routes x) e ∙ ap (λ (x : ℕ). route.count + x) on.offset ∙ sym (offset_beyond route routes k later);
        }))
        (next_lane routes (k - length route.links))
  ]
]

-- what holds of the ends of all routes holds of that of a lane
pub end_all : (P : ℕ → Type 0) (routes : List Route) → All (λ route. P route.end) routes → (k : ℕ) → k < length (lanes_of routes) → P (end_at routes k)
end_all P [] each k l = absurd (omega (arith, l))
end_all P (route ∷ routes) each k l = elim (cases_lt k (length route.links)) [
  | inl here ↦ rw (end_inside route routes k here) (All-head (λ (r : Route). P r.end) route routes each)
  | inr later ↦
      rw (end_beyond route routes k later)
      (end_all P routes (All-tail (λ (r : Route). P r.end) route routes each) (k - length route.links) (omega (arith, l, later, length-lanes route routes)))
]

-- a route ends at the end of a lane
pub end_listed : (routes : List Route) (k : ℕ) → k < length (lanes_of routes) → list_any (λ route. nat_eq route.end (end_at routes k)) routes ≡ true
end_listed [] k l = absurd (omega (arith, l))
end_listed (route ∷ routes) k l = elim (cases_lt k (length route.links)) [
  | inl here ↦
      subst (λ (x : ℕ). list_any (λ (r : Route). nat_eq r.end x) (route ∷ routes) ≡ true) (sym (end_inside route routes k here))
      (or_left (nat_eq route.end route.end) (list_any (λ (r : Route). nat_eq r.end route.end) routes) (eq-eqb route.end route.end refl))
  | inr later ↦
      subst (λ (x : ℕ). list_any (λ (r : Route). nat_eq r.end x) (route ∷ routes) ≡ true) (sym (end_beyond route routes k later))
      (or_right (nat_eq route.end (end_at routes (k - length route.links))) (list_any (λ (r : Route). nat_eq r.end (end_at routes (k - length route.links))) routes)
      (end_listed routes (k - length route.links) (omega (arith, l, later, length-lanes route routes))))
]
