-- Steps of making the actors' runs.
use Rattle.std.proofs.Common.{◌≡◌, ℕ, zero, suc, ◌+◌, ◌-◌, ◌<◌, ◌≤◌, ◌^◌, Bool, true, false, cond, nat_eq, List, [], ◌∷◌, ◌++◌, length, map, filter, take, drop, get_or, sum_by, sym, refl, ap, ◌∙◌, inl, inr, subst, arith, All, Some, None, append_assoc, add-zero, add_assoc, length-append}
use Rattle.std.proofs.lemmas.Bool.{cases_lt, eq-eqb, cond-true}
use Rattle.std.proofs.lemmas.List.{drop_more, get_or-append_right}
use Rattle.std.proofs.lemmas.List.Elements.{All-head, All-tail, All-get_or, All-weaker}
use Rattle.std.proofs.lemmas.List.Sums.{sum_by-cons, sum_by_more, sum_by-take-le}
use Rattle.flow_routes.specs.declared.flow.Route.{Route}
use Rattle.period_table.specs.declared.table.Slot.{Slot}
use Rattle.period_table.specs.declared.table.Piece.{Piece}
use Rattle.period_table.specs.Lanes.{LaneAt, lanes_of, lane_at}
use Rattle.period_table.specs.Tables.{moved_over, Fits, IsSlot, IsPiece}
use Rattle.period_table.specs.declared.table.Table.{Table}
use Rattle.period_table.proofs.FittingTables.{lanes_bounded}
use Rattle.platform_file.specs.Ticks.{TimedView}
use Rattle.schedule_model.specs.declared.schedule.Series.TheVariants.{Tasking}
use Rattle.actor_programs.specs.declared.places.Place.{Place}
use Rattle.actor_programs.specs.declared.run.Run.{Run}
use Rattle.actor_programs.specs.Tasks.{offset_at}
use Rattle.actor_programs.specs.Programs.{lane_before, run_of, is_over, sends_of, computes_of}
use Rattle.actor_programs.specs.Places.{places_from, places_of, place_at, run_with, goes_over}
use Rattle.actor_programs.proofs.LaneNumbers.{length-lanes, inside, beyond, offset_inside, offset_beyond}
use Rattle.actor_programs.proofs.Runs.{in_slot}

-- a piece adds no more to a lane than all pieces do
pub piece_fits : (pieces : List Piece) (i : ℕ) (d : Piece) → i < length pieces
    → in_slot (get_or pieces i d).lane (take i pieces) + (get_or pieces i d).count ≤ in_slot (get_or pieces i d).lane pieces
piece_fits pieces i d l =
    let k = (get_or pieces i d).lane in
    let f = λ (piece : Piece). cond (nat_eq piece.lane k) piece.count 0 in
    let here : cond (nat_eq k k) (get_or pieces i d).count 0 ≡ (get_or pieces i d).count = cond-true (nat_eq k k) (get_or pieces i d).count 0 (eq-eqb k k refl) in
    omega (arith, here, sum_by_more f pieces i d l, sum_by-take-le f pieces (i + 1))

-- one route more
pub route_at : (routes : List Route) (i : ℕ) (route : Route) → i < length routes → route ≡ get_or routes i route → drop i routes ≡ route ∷ drop (i + 1) routes
route_at routes i route l is = drop_more routes i route l ∙ ap (λ r. r ∷ drop (i + 1) routes) (sym is)

pub lanes_left : (routes : List Route) (i : ℕ) (route : Route) → i < length routes → route ≡ get_or routes i route
    → length (lanes_of (drop i routes)) ≡ length route.links + length (lanes_of (drop (i + 1) routes))
lanes_left routes i route l is = ap (λ rs. length (lanes_of rs)) (route_at routes i route l is) ∙ length-lanes route (drop (i + 1) routes)

pub computes_left : (node lanes offset : ℕ) (routes : List Route) (i : ℕ) (route : Route) (runs new all : List Run) → i < length routes → route ≡ get_or routes i route
    → new ≡ runs ++ cond (nat_eq route.end node)
    (record { take = lane_before (length route.links) (lanes + length route.links); lane = None; hop = length route.links; offset = offset; count = route.count } ∷ []) []
    → runs ++ computes_of node lanes offset (drop i routes) ≡ all
    → new ++ computes_of node (lanes + length route.links) (offset + route.count) (drop (i + 1) routes) ≡ all
computes_left node lanes offset routes i route runs new all l is e inv =
    ap (λ x. x ++ computes_of node (lanes + length route.links) (offset + route.count) (drop (i + 1) routes)) e
    ∙ append_assoc runs _ (computes_of node (lanes + length route.links) (offset + route.count) (drop (i + 1) routes))
    ∙ ap (λ rs. runs ++ computes_of node lanes offset rs) (sym (route_at routes i route l is))
    ∙ inv

-- ---- places

length-from : (offset count hop : ℕ) (links : List ℕ) → length (places_from offset count hop links) ≡ length links
length-from offset count hop [] = refl
length-from offset count hop (link ∷ links) = ap suc (length-from offset count (hop + 1) links)

pub length-places : (offset : ℕ) (routes : List Route) → length (places_of offset routes) ≡ length (lanes_of routes)
length-places offset [] = refl
length-places offset (route ∷ routes) =
    omega (
      arith,
      length-append (places_from offset route.count 0 route.links) (places_of (offset + route.count) routes),
      length-from offset route.count 0 route.links,
      length-places (offset + route.count) routes,
      length-lanes route routes,
    )

from_at : (offset count hop h : ℕ) (links : List ℕ) (rest : List Place) (k : ℕ) → k < length links → h ≡ hop + k
    → place_at (places_from offset count hop links ++ rest) k ≡ record { link = get_or links k 0; hop = h; offset = offset; count = count }
from_at offset count hop h [] rest k l e = absurd (omega arith)
from_at offset count hop h (link ∷ links) rest zero l e = let same : hop ≡ h = omega arith in rw same refl
from_at offset count hop h (link ∷ links) rest (suc k) l e = from_at offset count (hop + 1) h links rest k (omega arith) (omega arith)

-- the place that stands for a lane
abbrev pub place_for : ℕ → LaneAt → Place
place_for offset lane = record { link = lane.link; hop = lane.hop; offset = offset; count = lane.count }

pub place_is : (offset : ℕ) (routes : List Route) (k : ℕ) → k < length (lanes_of routes) → place_at (places_of offset routes) k ≡ place_for (offset + offset_at routes k) (lane_at (lanes_of routes) k)
place_is offset [] k l = absurd (omega (arith, l))
place_is offset (route ∷ routes) k l = elim (cases_lt k (length route.links)) [
  | inl here ↦
      let e : offset + offset_at (route ∷ routes) k ≡ offset = ap (λ x. offset + x) (offset_inside route routes k here) ∙ add-zero offset in
      from_at offset route.count 0 k route.links (places_of (offset + route.count) routes) k here (omega arith)
      ∙ sym (ap (λ x. place_for x (lane_at (lanes_of (route ∷ routes)) k)) e ∙ ap (place_for offset) (inside route routes k here))
  | inr later ↦
      let e : (offset + route.count) + offset_at routes (k - length route.links) ≡ offset + offset_at (route ∷ routes) k =
      add_assoc offset route.count (offset_at routes (k - length route.links)) ∙ sym (ap (λ x. offset + x) (offset_beyond route routes k later)) in
      get_or-append_right (places_from offset route.count 0 route.links) (places_of (offset + route.count) routes) (length route.links) k
      (record { link = 0; hop = 0; offset = 0; count = 0 }) (length-from offset route.count 0 route.links) later
      ∙ place_is (offset + route.count) routes (k - length route.links) (omega (arith, l, later, length-lanes route routes))
      ∙ ap (λ x. place_for x (lane_at (lanes_of routes) (k - length route.links))) e
      ∙ ap (place_for (offset + offset_at (route ∷ routes) k)) (sym (beyond route routes k later))
]

pub offset_small : (routes : List Route) (k : ℕ) → offset_at routes k ≤ sum_by (λ route. route.count) routes
offset_small [] k = omega arith
offset_small (route ∷ routes) k = elim (cases_lt k (length route.links)) [
  | inl here ↦ let e = offset_inside route routes k here in omega (arith, e)
  | inr later ↦
      omega (arith, offset_beyond route routes k later, offset_small routes (k - length route.links), sum_by-cons (λ (r : Route). r.count) route routes)
]

-- ---- the runs of a slot

module _ (routes : List Route) (link : ℕ) (before : List Slot) (moved : List ℕ)
    (agree : (k : ℕ) → k < length (lanes_of routes) → get_or moved k 0 ≡ moved_over k before) where
  abbrev places : List Place
  places = places_of 0 routes

  one_run : (piece : Piece) → piece.lane < length (lanes_of routes) → (run_with places moved piece ≡ run_of routes before piece) × (goes_over places link piece ≡ is_over routes link piece)
  one_run piece l =
      let is = place_is 0 routes piece.lane l in
      let zero_less : 0 + offset_at routes piece.lane ≡ offset_at routes piece.lane = omega arith in
      let hop : (place_at places piece.lane).hop ≡ (lane_at (lanes_of routes) piece.lane).hop = ap (λ (p : Place). p.hop) is in
      let offset : (place_at places piece.lane).offset ≡ offset_at routes piece.lane = ap (λ (p : Place). p.offset) is ∙ zero_less in
      let on : (place_at places piece.lane).link ≡ (lane_at (lanes_of routes) piece.lane).link = ap (λ (p : Place). p.link) is in (
        same _ _ _ _ _ _ piece hop offset (agree piece.lane l),
        ap (λ x. nat_eq x link) on,
      )
    where
      same : (h i o p m n : ℕ) (piece : Piece) → h ≡ i → o ≡ p → m ≡ n
          → ◌≡◌ {A = Run} (record { take = lane_before h piece.lane; lane = Some piece.lane; hop = h; offset = o + m; count = piece.count })
          (record { take = lane_before i piece.lane; lane = Some piece.lane; hop = i; offset = p + n; count = piece.count })
      same h i o p m n piece e f g = rw (e, f, g) refl

  pub same_runs : (pieces : List Piece) → All (λ piece. piece.lane < length (lanes_of routes)) pieces
      → map (run_with places moved) (filter (goes_over places link) pieces) ≡ map (run_of routes before) (filter (is_over routes link) pieces)
  same_runs [] each = refl
  same_runs (piece ∷ pieces) each =
      let one = one_run piece (All-head (λ (p : Piece). p.lane < length (lanes_of routes)) piece pieces each) in
      let rest = same_runs pieces (All-tail (λ (p : Piece). p.lane < length (lanes_of routes)) piece pieces each) in
      ap (λ b. map (run_with places moved) (cond b (piece ∷ filter (goes_over places link) pieces) (filter (goes_over places link) pieces))) one.1
      ∙ both (is_over routes link piece) _ _ one.0 rest
    where
      both : (b : Bool) (xs ys : List Piece) → run_with places moved piece ≡ run_of routes before piece → map (run_with places moved) xs ≡ map (run_of routes before) ys
          → map (run_with places moved) (cond b (piece ∷ xs) xs) ≡ map (run_of routes before) (cond b (piece ∷ ys) ys)
      both true xs ys e f = rw (e, f) refl
      both false xs ys e f = f

-- ---- a slot more

module _ (t : TimedView) (table : Table) (fits : Fits t Tasking table) (places : List Place) (are : places ≡ places_of 0 table.routes) where
  pub as_many : length places ≡ length (lanes_of table.routes)
  as_many = ap length are ∙ length-places 0 table.routes

  pub bounded : (k : ℕ) → k < length places → (lane_at (lanes_of table.routes) k).count ≤ 2 ^ 100
  bounded k l =
      All-get_or (λ (lane : LaneAt). lane.count ≤ 2 ^ 100) (lanes_of table.routes) k (record { link = 0; hop = 0; kind = 0; count = 0 }) (omega (arith, l, as_many)) (lanes_bounded t Tasking table fits)

  pub place_short : (k m rest : ℕ) → k < length places → m + rest ≡ (lane_at (lanes_of table.routes) k).count → (place_at places k).offset + m < 2 ^ 128
  place_short k m rest l e =
      let is : (place_at places k).offset ≡ 0 + offset_at table.routes k = ap (λ ps. (place_at ps k).offset) are ∙ ap (λ (p : Place). p.offset) (place_is 0 table.routes k (omega (arith, l, as_many))) in
      omega (arith, is, e, bounded k l, offset_small table.routes k, fits.tasks, fits.few_tasks)

  module _ (i : ℕ) (slot : Slot) (l : i < length table.slots) (is : slot ≡ get_or table.slots i slot) where
    slot_at : drop i table.slots ≡ slot ∷ drop (i + 1) table.slots
    slot_at = drop_more table.slots i slot l ∙ ap (λ s. s ∷ drop (i + 1) table.slots) (sym is)

    pub moved_left : (k : ℕ) → moved_over k (drop i table.slots) ≡ in_slot k slot.pieces + moved_over k (drop (i + 1) table.slots)
    moved_left k = ap (moved_over k) slot_at ∙ sum_by-cons (λ (s : Slot). in_slot k s.pieces) slot (drop (i + 1) table.slots)

    pub pieces_exist : All (λ piece. piece.lane < length (lanes_of table.routes)) slot.pieces
    pieces_exist =
        let one : IsSlot (lanes_of table.routes) slot = subst (IsSlot (lanes_of table.routes)) (sym is) (All-get_or (IsSlot (lanes_of table.routes)) table.slots i slot l fits.slots) in
        All-weaker (IsPiece (lanes_of table.routes)) (λ (piece : Piece). piece.lane < length (lanes_of table.routes)) (λ piece p. p.lane) slot.pieces one.pieces

    pub sends_left : (link : ℕ) (before : List Slot) (moved : List ℕ) (runs new all : List Run)
        → ((k : ℕ) → k < length (lanes_of table.routes) → get_or moved k 0 ≡ moved_over k before)
        → new ≡ runs ++ map (run_with places moved) (filter (goes_over places link) slot.pieces)
        → runs ++ sends_of table.routes link before (drop i table.slots) ≡ all
        → new ++ sends_of table.routes link (slot ∷ before) (drop (i + 1) table.slots) ≡ all
    sends_left link before moved runs new all agree e inv =
        ap (λ x. x ++ sends_of table.routes link (slot ∷ before) (drop (i + 1) table.slots))
        (e ∙ ap (λ x. runs ++ x) (ap (λ ps. map (run_with ps moved) (filter (goes_over ps link) slot.pieces)) are ∙ same_runs table.routes link before moved agree slot.pieces pieces_exist))
        ∙ append_assoc runs (map (run_of table.routes before) (filter (is_over table.routes link) slot.pieces)) (sends_of table.routes link (slot ∷ before) (drop (i + 1) table.slots))
        ∙ ap (λ ss. runs ++ sends_of table.routes link before ss) (sym slot_at)
        ∙ inv

  pub more_before : (k : ℕ) (slot : Slot) (before : List Slot) → moved_over k (slot ∷ before) ≡ moved_over k before + in_slot k slot.pieces
  more_before k slot before = let e = sum_by-cons (λ (s : Slot). in_slot k s.pieces) slot before in omega (arith, e)
