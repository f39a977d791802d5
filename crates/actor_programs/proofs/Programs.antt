-- The events on a lane of a program: an opener's are those of the lane's route, batch by batch, and a taker's are the same a period later.
use Rattle.std.proofs.Common.{◌≡◌, ◌≢◌, ℕ, ◌+◌, ◌-◌, ◌≤◌, ◌&&◌, Bool, true, false, cond, nat_eq, nat_le, List, [], ◌∷◌, ◌++◌, length, map, filter, sym, refl, ap, ◌∙◌, inl, inr, ⊎_elim, arith, All, Option, None, add-zero}
use Rattle.std.specs.List.{flat_map}
use Rattle.std.specs.Option.{option_map_or}
use Rattle.std.proofs.lemmas.Bool.{cases_lt, cases_eq, ne_eqb, le-leb, lt-leb, and_right}
use Rattle.std.proofs.lemmas.List.{get_or_past}
use Rattle.std.proofs.lemmas.List.Concat.{flat_map-append}
use Rattle.std.proofs.lemmas.List.Elements.{All-head, All-tail, All-weaker}
use Rattle.std.proofs.lemmas.List.Sums.{sum_by-cons}
use Rattle.platform_file.specs.Ticks.{TimedView}
use Rattle.schedule_model.specs.declared.schedule.Series.{Series}
use Rattle.step_core.specs.declared.wiring.Event.{Event}
use Rattle.step_core.specs.Wirings.{taking, is_lane}
use Rattle.step_core.specs.Tasks.{tasks_on}
use Rattle.flow_routes.specs.declared.flow.Route.{Route}
use Rattle.period_table.specs.declared.table.Table.{Table}
use Rattle.period_table.specs.declared.table.Slot.{Slot}
use Rattle.period_table.specs.declared.table.Piece.{Piece}
use Rattle.period_table.specs.Lanes.{LaneAt, lanes_of, lane_at}
use Rattle.period_table.specs.Tables.{moved_over, IsSlot, IsPiece, Fits}
use Rattle.actor_programs.specs.Tasks.{tasks_of_batch, joined_below, tasks_below, offset_at, end_at}
use Rattle.actor_programs.specs.declared.run.Run.{Run}
use Rattle.actor_programs.specs.Runs.{run_tasks, period_events, events_below}
use Rattle.actor_programs.specs.Programs.{run_of, is_over, sends_of, computes_of, runs_of}
use Rattle.actor_programs.specs.declared.actor.Actor.TheVariants.{Sender, Consumer}
use Rattle.actor_programs.proofs.Numbers.{joined_same, joined_if, joined_later}
use Rattle.actor_programs.proofs.LaneNumbers.{GoesOn, next_lane}
use Rattle.actor_programs.proofs.Runs.{tasks-joined, Does, does_take, passed, period_moves, in_slot, slot-cons, skipped, join_if, none_if, all_slots, all_routes, come, before_test}
use Rattle.actor_programs.specs.declared.actor.Actor.{Actor}

-- ---- what the slots move over a lane, also one that doesn't exist

pub in_none : (k : ℕ) (pieces : List Piece) → All (λ q. q.lane ≢ k) pieces → in_slot k pieces ≡ 0
in_none k [] each = refl
in_none k (piece ∷ pieces) each =
    skipped (nat_eq piece.lane k) piece.count _ _ (ne_eqb piece.lane k (All-head (λ (q : Piece). q.lane ≢ k) piece pieces each)) (slot-cons k piece pieces)
    ∙ in_none k pieces (All-tail (λ (q : Piece). q.lane ≢ k) piece pieces each)

moved_none : (lanes : List LaneAt) (k : ℕ) (slots : List Slot) → length lanes ≤ k → All (IsSlot lanes) slots → moved_over k slots ≡ 0
moved_none lanes k [] past each = refl
moved_none lanes k (slot ∷ slots) past each =
    both _ _ _ (sum_by-cons (λ (s : Slot). in_slot k s.pieces) slot slots)
    (in_none k slot.pieces (All-weaker (IsPiece lanes) (λ (q : Piece). q.lane ≢ k) (λ q is e. omega (arith, is.lane, past, e)) slot.pieces (All-head (IsSlot lanes) slot slots each).pieces))
    (moved_none lanes k slots past (All-tail (IsSlot lanes) slot slots each))
  where
    both : (a b c : ℕ) → a ≡ b + c → b ≡ 0 → c ≡ 0 → a ≡ 0
    both a b c e f g = omega arith

pub moved_all : (t : TimedView) (series : Series) (table : Table) → Fits t series table → (k : ℕ) → moved_over k table.slots ≡ (lane_at (lanes_of table.routes) k).count
moved_all t series table fits k = elim (cases_lt k (length (lanes_of table.routes))) [
  | inl inside ↦ fits.moved k inside
  | inr past ↦
      moved_none (lanes_of table.routes) k table.slots past fits.slots
      ∙ sym (ap (λ (l : LaneAt). l.count) (get_or_past (lanes_of table.routes) k (record { link = 0; hop = 0; kind = 0; count = 0 }) past))
]

-- ---- who opens a lane, and who takes from it

abbrev pub opens_over : List Route → ℕ → Actor → Bool
opens_over routes k (Sender link) = nat_eq (lane_at (lanes_of routes) k).link link
opens_over routes k (Consumer node) = false

abbrev pub takes_over : List Route → ℕ → Actor → Bool
takes_over routes k (Sender link) = nat_le 1 (lane_at (lanes_of routes) (k + 1)).hop && nat_eq (lane_at (lanes_of routes) (k + 1)).link link
takes_over routes k (Consumer node) = nat_eq (lane_at (lanes_of routes) (k + 1)).hop 0 && nat_eq (end_at routes k) node

-- a consumer sends nothing
keeps : (tasks chunks period k node lanes offset : ℕ) (routes : List Route)
    → flat_map (passed tasks chunks (λ run. option_map_or (is_lane k) run.lane false) period) (computes_of node lanes offset routes) ≡ []
keeps tasks chunks period k node lanes offset [] = refl
keeps tasks chunks period k node lanes offset (route ∷ routes) =
    one (nat_eq route.end node) _ refl (computes_of node (lanes + length route.links) (offset + route.count) routes)
    (keeps tasks chunks period k node (lanes + length route.links) (offset + route.count) routes)
  where
    one : (b : Bool) (run : Run) → run.lane ≡ None → (rest : List Run) → flat_map (passed tasks chunks (λ run. option_map_or (is_lane k) run.lane false) period) rest ≡ []
        → flat_map (passed tasks chunks (λ run. option_map_or (is_lane k) run.lane false) period) (cond b (run ∷ []) [] ++ rest) ≡ []
    one true run none rest e = rw (none, e) refl
    one false run none rest e = e

-- what a sender takes off a lane it sends on over the lane after it, where that goes on with the route
module _ (tasks chunks period : ℕ) (routes : List Route) (k : ℕ) where
  abbrev goes_on : Bool
  goes_on = nat_le 1 (lane_at (lanes_of routes) (k + 1)).hop

  abbrev taken_off : Run → List ℕ
  taken_off run = passed tasks chunks (λ run. option_map_or (is_lane k) run.take false) period run

  abbrev sent_on : Run → List ℕ
  sent_on run = passed tasks chunks (λ run. option_map_or (is_lane (k + 1)) run.lane false) period run

  piece_taken : (before : List Slot) (piece : Piece) → taken_off (run_of routes before piece) ≡ cond goes_on (sent_on (run_of routes before piece)) []
  piece_taken before piece =
      ap (λ b. cond b (run_tasks tasks chunks period (run_of routes before piece)) []) (before_test (lane_at (lanes_of routes) piece.lane).hop piece.lane k ∙ there)
      ∙ nested goes_on (nat_eq piece.lane (k + 1)) (run_tasks tasks chunks period (run_of routes before piece))
    where
      there : (nat_le 1 (lane_at (lanes_of routes) piece.lane).hop && nat_eq piece.lane (k + 1)) ≡ (goes_on && nat_eq piece.lane (k + 1))
      there = elim (cases_eq piece.lane (k + 1)) [
        | inl same ↦ ap (λ x. nat_le 1 (lane_at (lanes_of routes) x).hop && nat_eq piece.lane (k + 1)) same
        | inr other ↦
            let differ = ne_eqb piece.lane (k + 1) other in
            and_right (nat_le 1 (lane_at (lanes_of routes) piece.lane).hop) (nat_eq piece.lane (k + 1)) differ ∙ sym (and_right goes_on (nat_eq piece.lane (k + 1)) differ)
      ]

      nested : (b c : Bool) (xs : List ℕ) → cond (b && c) xs [] ≡ cond b (cond c xs []) []
      nested true c xs = refl
      nested false c xs = refl

  pieces_taken : (before : List Slot) (pieces : List Piece) → flat_map taken_off (map (run_of routes before) pieces) ≡ cond goes_on (flat_map sent_on (map (run_of routes before) pieces)) []
  pieces_taken before [] = sym (none_if goes_on)
  pieces_taken before (piece ∷ pieces) =
      rw (piece_taken before piece, pieces_taken before pieces)
      (join_if goes_on (sent_on (run_of routes before piece)) (flat_map sent_on (map (run_of routes before) pieces)))

  pub slots_taken : (link : ℕ) (before slots : List Slot) → flat_map taken_off (sends_of routes link before slots) ≡ cond goes_on (flat_map sent_on (sends_of routes link before slots)) []
  slots_taken link before [] = sym (none_if goes_on)
  slots_taken link before (slot ∷ slots) =
      flat_map-append taken_off (map (run_of routes before) (filter (is_over routes link) slot.pieces)) (sends_of routes link (slot ∷ before) slots)
      ∙ rw (pieces_taken before (filter (is_over routes link) slot.pieces), slots_taken link (slot ∷ before) slots)
      (join_if goes_on (flat_map sent_on (map (run_of routes before) (filter (is_over routes link) slot.pieces))) (flat_map sent_on (sends_of routes link (slot ∷ before) slots))
      ∙ ap (λ xs. cond goes_on xs []) (sym (flat_map-append sent_on (map (run_of routes before) (filter (is_over routes link) slot.pieces)) (sends_of routes link (slot ∷ before) slots))))

-- ---- a lane's events in a period, and in a program

module _ (t : TimedView) (series : Series) (table : Table) (fits : Fits t series table) (chunks k : ℕ) where
  abbrev batch : ℕ → List ℕ
  batch b = tasks_of_batch table.tasks chunks b (offset_at table.routes k) (lane_at (lanes_of table.routes) k).count

  -- a lane's tasks in a period, where they are at a hop
  abbrev at_hop : ℕ → ℕ → List ℕ
  at_hop hop period = cond (nat_le hop period) (batch (period - hop)) []

  opened : (role : Event → Option ℕ) → Does role (λ run. run.lane) → (number : ℕ) (actor : Actor) (period : ℕ)
      → tasks_on role k (period_events table.tasks chunks number (runs_of table actor) period) ≡ cond (opens_over table.routes k actor) (at_hop (lane_at (lanes_of table.routes) k).hop period) []
  opened role does number (Sender link) period =
      period_moves role (λ run. run.lane) does table.tasks chunks number k period (sends_of table.routes link [] table.slots)
      ∙ all_slots table.tasks chunks table.routes k link period [] table.slots fits.slots
      ∙ rw (moved_all t series table fits k, add-zero (offset_at table.routes k)) refl
  opened role does number (Consumer node) period =
      period_moves role (λ run. run.lane) does table.tasks chunks number k period (computes_of node 0 0 table.routes)
      ∙ keeps table.tasks chunks period k node 0 0 table.routes

  taken_in : (number : ℕ) (actor : Actor) (period : ℕ)
      → tasks_on taking k (period_events table.tasks chunks number (runs_of table actor) period) ≡ cond (takes_over table.routes k actor) (at_hop ((lane_at (lanes_of table.routes) k).hop + 1) period) []
  taken_in number (Sender link) period =
      let next : flat_map (passed table.tasks chunks (λ run. option_map_or (is_lane (k + 1)) run.lane false) period) (sends_of table.routes link [] table.slots)
      ≡ cond (nat_eq (lane_at (lanes_of table.routes) (k + 1)).link link) (cond (nat_le (lane_at (lanes_of table.routes) (k + 1)).hop period)
      (tasks_of_batch table.tasks chunks (period - (lane_at (lanes_of table.routes) (k + 1)).hop) (offset_at table.routes (k + 1)) (lane_at (lanes_of table.routes) (k + 1)).count) []) [] =
      all_slots table.tasks chunks table.routes (k + 1) link period [] table.slots fits.slots
      ∙ rw (moved_all t series table fits (k + 1), add-zero (offset_at table.routes (k + 1))) refl in
      period_moves taking (λ run. run.take) does_take table.tasks chunks number k period (sends_of table.routes link [] table.slots)
      ∙ slots_taken table.tasks chunks period table.routes k link [] table.slots
      ∙ ap (λ xs. cond (nat_le 1 (lane_at (lanes_of table.routes) (k + 1)).hop) xs []) next
      ∙ ⊎_elim
      (λ (first : (lane_at (lanes_of table.routes) (k + 1)).hop ≡ 0).
      let ends : nat_le 1 (lane_at (lanes_of table.routes) (k + 1)).hop ≡ false = lt-leb 1 (lane_at (lanes_of table.routes) (k + 1)).hop (omega (arith, first)) in
      rw ends refl)
      (λ (on : GoesOn table.routes k).
      let goes : nat_le 1 (lane_at (lanes_of table.routes) (k + 1)).hop ≡ true = le-leb 1 (lane_at (lanes_of table.routes) (k + 1)).hop (omega (arith, on.hop)) in
      rw (goes, on.hop, on.count, on.offset) refl)
      (next_lane table.routes k)
  taken_in number (Consumer node) period =
      let e : 0 + k ≡ k = omega arith in
      let d : 0 + offset_at table.routes k ≡ offset_at table.routes k = omega arith in
      period_moves taking (λ run. run.take) does_take table.tasks chunks number k period (computes_of node 0 0 table.routes)
      ∙ ap (λ x. flat_map (passed table.tasks chunks (λ run. option_map_or (is_lane x) run.take false) period) (computes_of node 0 0 table.routes)) (sym e)
      ∙ all_routes table.tasks chunks node period 0 0 table.routes k
      ∙ ap (λ x. come table.tasks chunks node period (nat_eq (lane_at (lanes_of table.routes) (k + 1)).hop 0 && nat_eq (end_at table.routes k) node)
      ((lane_at (lanes_of table.routes) k).hop + 1) x (lane_at (lanes_of table.routes) k).count) d

  -- the lane's tasks below a batch
  abbrev pub lane_tasks : ℕ → List ℕ
  lane_tasks n = tasks_below table.tasks chunks (offset_at table.routes k) (lane_at (lanes_of table.routes) k).count n

  joined_at : (b : Bool) (hop : ℕ) (f : ℕ → List ℕ) → ((p : ℕ) → f p ≡ cond b (at_hop hop p) []) → (n : ℕ) → joined_below f n ≡ cond b (lane_tasks (n - hop)) []
  joined_at b hop f same n =
      joined_same f (λ p. cond b (at_hop hop p) []) same n
      ∙ joined_if ℕ b (at_hop hop) n
      ∙ ap (λ xs. cond b xs []) (joined_later hop batch n)

  -- the tasks that an actor opens, or closes, on the lane in the first periods
  pub opened_below : (role : Event → Option ℕ) → Does role (λ run. run.lane) → (number : ℕ) (actor : Actor) (n : ℕ)
      → tasks_on role k (events_below table.tasks chunks number (runs_of table actor) n) ≡ cond (opens_over table.routes k actor) (lane_tasks (n - (lane_at (lanes_of table.routes) k).hop)) []
  opened_below role does number actor n =
      tasks-joined role k (period_events table.tasks chunks number (runs_of table actor)) n
      ∙ joined_at (opens_over table.routes k actor) (lane_at (lanes_of table.routes) k).hop
      (λ p. tasks_on role k (period_events table.tasks chunks number (runs_of table actor) p)) (opened role does number actor) n

  -- the tasks that it takes from the lane
  pub taken_below : (number : ℕ) (actor : Actor) (n : ℕ)
      → tasks_on taking k (events_below table.tasks chunks number (runs_of table actor) n) ≡ cond (takes_over table.routes k actor) (lane_tasks (n - ((lane_at (lanes_of table.routes) k).hop + 1))) []
  taken_below number actor n =
      tasks-joined taking k (period_events table.tasks chunks number (runs_of table actor)) n
      ∙ joined_at (takes_over table.routes k actor) ((lane_at (lanes_of table.routes) k).hop + 1)
      (λ p. tasks_on taking k (period_events table.tasks chunks number (runs_of table actor) p)) (taken_in number actor) n
