-- The tasks of a program's events: those that move over a lane are the tasks of its route, in order.
use Rattle.std.proofs.Common.{◌≡◌, ◌≢◌, ℕ, zero, suc, ◌+◌, ◌-◌, ◌<◌, ◌&&◌, Bool, true, false, cond, nat_eq, nat_le, List, [], ◌∷◌, ◌++◌, length, map, filter, sum_by, count_by, sym, refl, ap, ◌∙◌, inl, inr, arith, All, Option, Some, None, add-zero, add_assoc}
use Rattle.std.specs.List.{flat_map, AllPairs}
use Rattle.std.specs.List.Sorted.{IsStrictlyIncreasing}
use Rattle.std.specs.Option.{option_map_or}
use Rattle.std.proofs.lemmas.Bool.{cases_lt, cases_eq, eq-eqb, ne_eqb, le-leb, and_right, and_from, cond-true, cond-false}
use Rattle.std.proofs.lemmas.Bool.Decides.{nat_tests}
use Rattle.std.proofs.lemmas.List.{append-nil, get_or-map, length-map, map-append}
use Rattle.std.proofs.lemmas.List.Concat.{flat_map-append}
use Rattle.std.proofs.lemmas.List.Elements.{All-head, All-tail, All-weaker, All-from_get_or, filter-append}
use Rattle.std.proofs.lemmas.List.Sums.{sum_by-cons, length-filter}
use Rattle.std.proofs.lemmas.List.Kept.{AllPairs-from_increasing}
use Rattle.step_core.specs.declared.wiring.Event.{Event}
use Rattle.step_core.specs.declared.wiring.Event.TheVariants.{Take, Open, Close}
use Rattle.step_core.specs.Wirings.{opening, closing, taking, count_on, is_lane}
use Rattle.step_core.specs.Tasks.{task_of, is_done, tasks_on, tasks_done}
use Rattle.flow_routes.specs.declared.flow.Route.{Route}
use Rattle.period_table.specs.declared.table.Slot.{Slot}
use Rattle.period_table.specs.declared.table.Piece.{Piece}
use Rattle.period_table.specs.Lanes.{LaneAt, lanes_of, lane_at}
use Rattle.period_table.specs.Tables.{moved_over, IsSlot}
use Rattle.actor_programs.specs.Tasks.{tasks_of_batch, joined_below, offset_at, end_at}
use Rattle.actor_programs.specs.declared.run.Run.{Run}
use Rattle.actor_programs.specs.Runs.{taken, used, task_events, run_tasks, period_events}
use Rattle.actor_programs.specs.Programs.{lane_before, run_of, is_over, sends_of, computes_of}
use Rattle.actor_programs.proofs.Numbers.{batch-join}
use Rattle.actor_programs.proofs.LaneNumbers.{inside, beyond, offset_inside, offset_beyond, end_inside, end_beyond, first_hop}

-- ---- what a list of events does to a lane

-- the tasks of the events that pass a test, in order
abbrev pub tasks_that : (Event → Bool) → List Event → List ℕ
tasks_that p es = map task_of (filter p es)

that-append : (p : Event → Bool) (xs ys : List Event) → tasks_that p (xs ++ ys) ≡ tasks_that p xs ++ tasks_that p ys
that-append p xs ys = ap (map task_of) (filter-append p xs ys) ∙ map-append task_of (filter p xs) (filter p ys)

pub that-joined : (p : Event → Bool) (f : ℕ → List Event) (n : ℕ) → tasks_that p (joined_below f n) ≡ joined_below (λ q. tasks_that p (f q)) n
that-joined p f zero = refl
that-joined p f (suc n) = that-append p (joined_below f n) (f n) ∙ ap (λ xs. xs ++ tasks_that p (f n)) (that-joined p f n)

pub that-count : (p : Event → Bool) (es : List Event) → length (tasks_that p es) ≡ count_by p es
that-count p es = length-map (filter p es) task_of ∙ length-filter p es

-- the event does this to the lane
abbrev pub does_to : (Event → Option ℕ) → ℕ → Event → Bool
does_to role k e = option_map_or (is_lane k) (role e) false

pub tasks-count : (role : Event → Option ℕ) (k : ℕ) (es : List Event) → length (tasks_on role k es) ≡ count_on role (is_lane k) es
tasks-count role k es = that-count (does_to role k) es

pub tasks-joined : (role : Event → Option ℕ) (k : ℕ) (f : ℕ → List Event) (n : ℕ) → tasks_on role k (joined_below f n) ≡ joined_below (λ p. tasks_on role k (f p)) n
tasks-joined role k f n = that-joined (does_to role k) f n

-- ---- what a run does

-- of a run's events for a task one passes the test where the run does, and none elsewhere
abbrev pub DoesThat : (Event → Bool) → (Run → Bool) → Type 0
DoesThat p test = (actor t : ℕ) (run : Run) → tasks_that p (task_events actor run t) ≡ cond (test run) (t ∷ []) []

-- the run does this to the lane
abbrev pub goes_by : (Run → Option ℕ) → ℕ → Run → Bool
goes_by way k run = option_map_or (is_lane k) (way run) false

-- for a task of the run the lane is opened, closed or taken from once, where the run names it
abbrev pub Does : (Event → Option ℕ) → (Run → Option ℕ) → Type 0
Does role way = (k : ℕ) → DoesThat (does_to role k) (goes_by way k)

kept_if : (b : Bool) (e : Event) → map task_of (cond b (e ∷ []) []) ≡ cond b (task_of e ∷ []) []
kept_if true e = refl
kept_if false e = refl

pub does_open : Does opening (λ run. run.lane)
does_open k actor t run = go run.take run.lane
  where
    go : (take lane : Option ℕ) → tasks_on opening k (taken actor take t ++ used actor lane t) ≡ cond (option_map_or (is_lane k) lane false) (t ∷ []) []
    go None None = refl
    go None (Some l) = kept_if (is_lane k l) (Open actor l t)
    go (Some m) None = refl
    go (Some m) (Some l) = kept_if (is_lane k l) (Open actor l t)

pub does_close : Does closing (λ run. run.lane)
does_close k actor t run = go run.take run.lane
  where
    go : (take lane : Option ℕ) → tasks_on closing k (taken actor take t ++ used actor lane t) ≡ cond (option_map_or (is_lane k) lane false) (t ∷ []) []
    go None None = refl
    go None (Some l) = kept_if (is_lane k l) (Close actor l t)
    go (Some m) None = refl
    go (Some m) (Some l) = kept_if (is_lane k l) (Close actor l t)

pub does_take : Does taking (λ run. run.take)
does_take k actor t run = go run.take run.lane
  where
    go : (take lane : Option ℕ) → tasks_on taking k (taken actor take t ++ used actor lane t) ≡ cond (option_map_or (is_lane k) take false) (t ∷ []) []
    go None None = refl
    go None (Some l) = refl
    go (Some m) None = kept_if (is_lane k m) (Take actor m t)
    go (Some m) (Some l) = kept_if (is_lane k m) (Take actor m t)

-- the run's tasks are computed
abbrev pub computes : Run → Bool
computes run = option_map_or (λ l. false) run.lane true

pub does_done : DoesThat is_done computes
does_done actor t run = go run.take run.lane
  where
    go : (take lane : Option ℕ) → tasks_done (taken actor take t ++ used actor lane t) ≡ cond (option_map_or (λ l. false) lane true) (t ∷ []) []
    go None None = refl
    go None (Some l) = refl
    go (Some m) None = refl
    go (Some m) (Some l) = refl

both_if : (b : Bool) (t : ℕ) (ts : List ℕ) → cond b (t ∷ []) [] ++ cond b ts [] ≡ cond b (t ∷ ts) []
both_if true t ts = refl
both_if false t ts = refl

pub none_if : (b : Bool) → cond {A = List ℕ} b [] [] ≡ []
none_if true = refl
none_if false = refl

-- the tasks of a run in a period, where it passes a test
abbrev pub passed : ℕ → ℕ → (Run → Bool) → ℕ → Run → List ℕ
passed tasks chunks test period run = cond (test run) (run_tasks tasks chunks period run) []

module _ (p : Event → Bool) (test : Run → Bool) (does : DoesThat p test) (tasks chunks actor : ℕ) where
  run_does : (run : Run) (ts : List ℕ) → tasks_that p (flat_map (task_events actor run) ts) ≡ cond (test run) ts []
  run_does run [] = sym (none_if (test run))
  run_does run (t ∷ ts) =
      that-append p (task_events actor run t) (flat_map (task_events actor run) ts)
      ∙ rw (does actor t run, run_does run ts) (both_if (test run) t ts)

  pub period_does : (period : ℕ) (runs : List Run) → tasks_that p (period_events tasks chunks actor runs period) ≡ flat_map (passed tasks chunks test period) runs
  period_does period [] = refl
  period_does period (run ∷ runs) =
      that-append p (flat_map (task_events actor run) (run_tasks tasks chunks period run)) (period_events tasks chunks actor runs period)
      ∙ rw (run_does run (run_tasks tasks chunks period run), period_does period runs) refl

pub period_moves : (role : Event → Option ℕ) (way : Run → Option ℕ) → Does role way → (tasks chunks actor k period : ℕ) (runs : List Run)
    → tasks_on role k (period_events tasks chunks actor runs period) ≡ flat_map (passed tasks chunks (λ run. option_map_or (is_lane k) (way run) false) period) runs
period_moves role way does tasks chunks actor k period runs = period_does (does_to role k) (goes_by way k) (does k) tasks chunks actor period runs

-- ---- a sender's runs

-- what a slot moves over a lane
abbrev pub in_slot : ℕ → List Piece → ℕ
in_slot k pieces = sum_by (λ piece. cond (nat_eq piece.lane k) piece.count 0) pieces

pub slot-cons : (k : ℕ) (piece : Piece) (pieces : List Piece) → in_slot k (piece ∷ pieces) ≡ cond (nat_eq piece.lane k) piece.count 0 + in_slot k pieces
slot-cons k piece pieces = sum_by-cons (λ q. cond (nat_eq q.lane k) q.count 0) piece pieces

pub skipped : (b : Bool) (c n m : ℕ) → b ≡ false → m ≡ cond b c 0 + n → m ≡ n
skipped b c n m fails e = let z : cond b c 0 ≡ 0 = cond-false b c 0 fails in omega (arith, z, e)

added : (b : Bool) (c n m : ℕ) → b ≡ true → n ≡ 0 → m ≡ cond b c 0 + n → m ≡ c
added b c n m passes none e = let z : cond b c 0 ≡ c = cond-true b c 0 passes in omega (arith, z, e, none)

pub join_if : (b : Bool) (xs ys : List ℕ) → cond b xs [] ++ cond b ys [] ≡ cond b (xs ++ ys) []
join_if true xs ys = refl
join_if false xs ys = refl

module _ (tasks chunks : ℕ) (routes : List Route) (k link period : ℕ) where
  -- the lane's tasks in the period from a place on
  abbrev part : ℕ → ℕ → List ℕ
  part first n =
      cond (nat_le (lane_at (lanes_of routes) k).hop period) (tasks_of_batch tasks chunks (period - (lane_at (lanes_of routes) k).hop) (offset_at routes k + first) n) []

  part_join : (first m n : ℕ) → part first m ++ part (first + m) n ≡ part first (m + n)
  part_join first m n =
      let e : (offset_at routes k + first) + m ≡ offset_at routes k + (first + m) = omega arith in
      join_if (nat_le (lane_at (lanes_of routes) k).hop period)
      (tasks_of_batch tasks chunks (period - (lane_at (lanes_of routes) k).hop) (offset_at routes k + first) m)
      (tasks_of_batch tasks chunks (period - (lane_at (lanes_of routes) k).hop) (offset_at routes k + (first + m)) n)
      ∙ ap (λ xs. cond (nat_le (lane_at (lanes_of routes) k).hop period) xs [])
      (rw (← e) (sym (batch-join tasks chunks (period - (lane_at (lanes_of routes) k).hop) (offset_at routes k + first) m n)))

  abbrev sent : Run → List ℕ
  sent run = passed tasks chunks (λ run. option_map_or (is_lane k) run.lane false) period run

  abbrev slot_sends : List Slot → List Piece → List ℕ
  slot_sends before pieces = flat_map sent (map (run_of routes before) (filter (is_over routes link) pieces))

  -- one more piece
  kept : (before : List Slot) (b : Bool) (piece : Piece) (pieces : List Piece)
      → flat_map sent (map (run_of routes before) (cond b (piece ∷ pieces) pieces))
      ≡ cond b (sent (run_of routes before piece)) [] ++ flat_map sent (map (run_of routes before) pieces)
  kept before true piece pieces = refl
  kept before false piece pieces = refl

  other_lane : (before : List Slot) (b : Bool) (piece : Piece) → piece.lane ≢ k → cond b (sent (run_of routes before piece)) [] ≡ []
  other_lane before b piece other =
      let no : nat_eq piece.lane k ≡ false = ne_eqb piece.lane k other in
      rw no (none_if b)

  no_piece : (before : List Slot) (pieces : List Piece) → All (λ q. q.lane ≢ k) pieces → (slot_sends before pieces ≡ []) × (in_slot k pieces ≡ 0)
  no_piece before [] each = (refl, refl)
  no_piece before (piece ∷ pieces) each =
      let other = All-head (λ (q : Piece). q.lane ≢ k) piece pieces each in
      let rest = no_piece before pieces (All-tail (λ (q : Piece). q.lane ≢ k) piece pieces each) in
      let no : nat_eq piece.lane k ≡ false = ne_eqb piece.lane k other in (
        kept before (is_over routes link piece) piece (filter (is_over routes link) pieces) ∙ rw (other_lane before (is_over routes link piece) piece other) rest.0,
        skipped (nat_eq piece.lane k) piece.count _ _ no (slot-cons k piece pieces) ∙ rest.1,
      )

  one_slot : (before : List Slot) (pieces : List Piece) → AllPairs (λ p q. p.lane < q.lane) pieces
      → slot_sends before pieces ≡ cond (nat_eq (lane_at (lanes_of routes) k).link link) (part (moved_over k before) (in_slot k pieces)) []
  one_slot before [] up =
      sym (ap (λ (xs : List ℕ). cond (nat_eq (lane_at (lanes_of routes) k).link link) xs []) (none_if (nat_le (lane_at (lanes_of routes) k).hop period))
      ∙ none_if (nat_eq (lane_at (lanes_of routes) k).link link))
  one_slot before (piece ∷ pieces) up =
      let rest : All (λ q. piece.lane < q.lane) pieces = All-from_get_or (λ (q : Piece). piece.lane < q.lane) pieces piece (λ i l. up 0 (suc i) piece (omega arith) (omega (arith, l))) in
      let later : AllPairs (λ p q. p.lane < q.lane) pieces = λ i j d less l. up (suc i) (suc j) d (omega (arith, less)) (omega (arith, l)) in
      elim (cases_eq piece.lane k) [
        | inl same ↦
            let nothing = no_piece before pieces (All-weaker (λ (q : Piece). piece.lane < q.lane) (λ (q : Piece). q.lane ≢ k) (λ q above e. omega (arith, same, above, e)) pieces rest) in
            let yes_lane : nat_eq piece.lane k ≡ true = eq-eqb piece.lane k same in
            let all : in_slot k (piece ∷ pieces) ≡ piece.count = added (nat_eq piece.lane k) piece.count _ _ yes_lane nothing.1 (slot-cons k piece pieces) in
            kept before (is_over routes link piece) piece (filter (is_over routes link) pieces)
            ∙ rw (nothing.0, append-nil (cond (is_over routes link piece) (sent (run_of routes before piece)) []), all)
            (ap (λ xs. cond (is_over routes link piece) xs []) (cond-true (nat_eq piece.lane k) (run_tasks tasks chunks period (run_of routes before piece)) [] yes_lane)
            ∙ ap (λ l. cond (nat_eq (lane_at (lanes_of routes) l).link link)
            (cond (nat_le (lane_at (lanes_of routes) l).hop period) (tasks_of_batch tasks chunks (period - (lane_at (lanes_of routes) l).hop) (offset_at routes l + moved_over l before) piece.count) []) []) same)
        | inr other ↦
            let not_lane : nat_eq piece.lane k ≡ false = ne_eqb piece.lane k other in
            let all : in_slot k (piece ∷ pieces) ≡ in_slot k pieces = skipped (nat_eq piece.lane k) piece.count _ _ not_lane (slot-cons k piece pieces) in
            kept before (is_over routes link piece) piece (filter (is_over routes link) pieces)
            ∙ rw (other_lane before (is_over routes link piece) piece other, all) (one_slot before pieces later)
      ]

  -- the tasks of a lane that its link's sender sends from some slots on
  pub all_slots : (before slots : List Slot) → All (IsSlot (lanes_of routes)) slots
      → flat_map sent (sends_of routes link before slots) ≡ cond (nat_eq (lane_at (lanes_of routes) k).link link) (part (moved_over k before) (moved_over k slots)) []
  all_slots before [] each =
      sym (ap (λ (xs : List ℕ). cond (nat_eq (lane_at (lanes_of routes) k).link link) xs []) (none_if (nat_le (lane_at (lanes_of routes) k).hop period))
      ∙ none_if (nat_eq (lane_at (lanes_of routes) k).link link))
  all_slots before (slot ∷ slots) each =
      let up = (All-head (IsSlot (lanes_of routes)) slot slots each).ascending in
      let here = one_slot before slot.pieces (pairs slot.pieces up) in
      let later = all_slots (slot ∷ before) slots (All-tail (IsSlot (lanes_of routes)) slot slots each) in
      let e : moved_over k (slot ∷ before) ≡ moved_over k before + in_slot k slot.pieces = swap _ _ _ (sum_by-cons (λ (s : Slot). in_slot k s.pieces) slot before) in
      let d : moved_over k (slot ∷ slots) ≡ in_slot k slot.pieces + moved_over k slots = sum_by-cons (λ (s : Slot). in_slot k s.pieces) slot slots in
      flat_map-append sent (map (run_of routes before) (filter (is_over routes link) slot.pieces)) (sends_of routes link (slot ∷ before) slots)
      ∙ rw (here, later, e, d)
      (join_if (nat_eq (lane_at (lanes_of routes) k).link link) (part (moved_over k before) (in_slot k slot.pieces)) (part (moved_over k before + in_slot k slot.pieces) (moved_over k slots))
      ∙ ap (λ xs. cond (nat_eq (lane_at (lanes_of routes) k).link link) xs []) (part_join (moved_over k before) (in_slot k slot.pieces) (moved_over k slots)))
    where
      swap : (a b c : ℕ) → a ≡ b + c → a ≡ c + b
      swap a b c e = omega arith

      pairs : (pieces : List Piece) → IsStrictlyIncreasing (map (λ piece. piece.lane) pieces) → AllPairs (λ p q. p.lane < q.lane) pieces
      pairs pieces up = λ i j d less l.
          let rises = AllPairs-from_increasing (map (λ (piece : Piece). piece.lane) pieces) up i j d.lane less (omega (arith, l, length-map pieces (λ (piece : Piece). piece.lane))) in
          rw (get_or-map (λ (piece : Piece). piece.lane) pieces i d d.lane (omega (arith, less, l)), get_or-map (λ (piece : Piece). piece.lane) pieces j d d.lane l) at rises

-- ---- a consumer's runs

pub before_test : (hop lane k : ℕ) → option_map_or (is_lane k) (lane_before hop lane) false ≡ (nat_le 1 hop && nat_eq lane (k + 1))
before_test zero lane k = refl
before_test (suc hop) zero k = grind (arith, nat_tests)
before_test (suc hop) (suc lane) k = grind (arith, nat_tests)

pub one_more : {X Y : Type 0} (f : X → List Y) (b : Bool) (x : X) (xs : List X) → flat_map f (cond b (x ∷ []) [] ++ xs) ≡ cond b (f x) [] ++ flat_map f xs
one_more f true x xs = refl
one_more f false x xs = refl

module _ (tasks chunks node period : ℕ) where
  -- the tasks of a batch that is so many periods on its way
  abbrev pub come : Bool → ℕ → ℕ → ℕ → List ℕ
  come b hop offset count = cond b (cond (nat_le hop period) (tasks_of_batch tasks chunks (period - hop) offset count) []) []

  come_same : (b c : Bool) (h i o p m n : ℕ) → b ≡ c → h ≡ i → o ≡ p → m ≡ n → come b h o m ≡ come c i p n
  come_same b c h i o p m n e f g d = cc

  abbrev got : ℕ → Run → List ℕ
  got k run = passed tasks chunks (λ run. option_map_or (is_lane k) run.take false) period run

  -- the route's run, for a lane that isn't its last
  not_last : (route : Route) (lanes offset k : ℕ) → (nat_le 1 (length route.links) && nat_eq (lanes + length route.links) (k + 1)) ≡ false
      → got k (record { take = lane_before (length route.links) (lanes + length route.links); lane = None; hop = length route.links; offset = offset; count = route.count }) ≡ []
  not_last route lanes offset k other =
      cond-false (option_map_or (is_lane k) (lane_before (length route.links) (lanes + length route.links)) false)
      (cond (nat_le (length route.links) period) (tasks_of_batch tasks chunks (period - length route.links) offset route.count) []) []
      (before_test (length route.links) (lanes + length route.links) k ∙ other)

  -- lanes before the routes
  early : (lanes offset : ℕ) (routes : List Route) (k : ℕ) → k < lanes → flat_map (got k) (computes_of node lanes offset routes) ≡ []
  early lanes offset [] k less = refl
  early lanes offset (route ∷ routes) k less =
      one_more (got k) (nat_eq route.end node)
      (record { take = lane_before (length route.links) (lanes + length route.links); lane = None; hop = length route.links; offset = offset; count = route.count })
      (computes_of node (lanes + length route.links) (offset + route.count) routes)
      ∙ rw (
        not_last route lanes offset k (apart (length route.links) lanes k less),
        none_if (nat_eq route.end node),
        early (lanes + length route.links) (offset + route.count) routes k (omega (arith, less)),
      ) refl
    where
      apart : (n lanes k : ℕ) → k < lanes → (nat_le 1 n && nat_eq (lanes + n) (k + 1)) ≡ false
      apart n lanes k less = grind (arith, nat_tests)

  pub all_routes : (lanes offset : ℕ) (routes : List Route) (k : ℕ) → flat_map (got (lanes + k)) (computes_of node lanes offset routes)
      ≡ come (nat_eq (lane_at (lanes_of routes) (k + 1)).hop 0 && nat_eq (end_at routes k) node)
      ((lane_at (lanes_of routes) k).hop + 1) (offset + offset_at routes k) (lane_at (lanes_of routes) k).count
  all_routes lanes offset [] k =
      sym (ap (λ (xs : List ℕ). cond (nat_eq 0 node) xs []) (none_if (nat_le 1 period)) ∙ none_if (nat_eq 0 node))
  all_routes lanes offset (route ∷ routes) k =
      one_more (got (lanes + k)) (nat_eq route.end node)
      (record { take = lane_before (length route.links) (lanes + length route.links); lane = None; hop = length route.links; offset = offset; count = route.count })
      (computes_of node (lanes + length route.links) (offset + route.count) routes)
      ∙ elim (cases_lt (k + 1) (length route.links)) [
        | inl more ↦
            let next : (lane_at (lanes_of (route ∷ routes)) (k + 1)).hop ≡ k + 1 = ap (λ (l : LaneAt). l.hop) (inside route routes (k + 1) more) in
            let goes_on : nat_eq (lane_at (lanes_of (route ∷ routes)) (k + 1)).hop 0 ≡ false = ne_eqb (lane_at (lanes_of (route ∷ routes)) (k + 1)).hop 0 (λ e. omega (arith, next, e)) in
            rw (
              not_last route lanes offset (lanes + k) (apart (length route.links) lanes k (λ e. omega (arith, more, e))),
              none_if (nat_eq route.end node),
              early (lanes + length route.links) (offset + route.count) routes (lanes + k) (omega (arith, more)),
            )
            (sym (ap (λ b. come (b && nat_eq (end_at (route ∷ routes) k) node)
            ((lane_at (lanes_of (route ∷ routes)) k).hop + 1) (offset + offset_at (route ∷ routes) k) (lane_at (lanes_of (route ∷ routes)) k).count) goes_on))
        | inr past ↦ elim (cases_lt k (length route.links)) [
          | inl last ↦
              let n : length route.links ≡ k + 1 = omega (arith, past, last) in
              let here = inside route routes k last in
              let e : (k + 1) - length route.links ≡ 0 = omega (arith, n) in
              let next : (lane_at (lanes_of (route ∷ routes)) (k + 1)).hop ≡ 0 =
              ap (λ (l : LaneAt). l.hop) (beyond route routes (k + 1) past ∙ ap (lane_at (lanes_of routes)) e) ∙ first_hop routes in
              let ends : nat_eq (lane_at (lanes_of (route ∷ routes)) (k + 1)).hop 0 ≡ true = eq-eqb (lane_at (lanes_of (route ∷ routes)) (k + 1)).hop 0 next in
              rw (early (lanes + length route.links) (offset + route.count) routes (lanes + k) (omega (arith, last)), append-nil _)
              (ap (λ xs. cond (nat_eq route.end node) xs [])
              (cond-true (option_map_or (is_lane (lanes + k)) (lane_before (length route.links) (lanes + length route.links)) false)
              (cond (nat_le (length route.links) period) (tasks_of_batch tasks chunks (period - length route.links) offset route.count) []) []
              (before_test (length route.links) (lanes + length route.links) (lanes + k) ∙ at_last (length route.links) lanes k n))
              ∙ come_same (nat_eq route.end node) (nat_eq (lane_at (lanes_of (route ∷ routes)) (k + 1)).hop 0 && nat_eq (end_at (route ∷ routes) k) node)
              (length route.links) ((lane_at (lanes_of (route ∷ routes)) k).hop + 1) offset (offset + offset_at (route ∷ routes) k)
              route.count (lane_at (lanes_of (route ∷ routes)) k).count
              (sym (ap (λ b. b && nat_eq (end_at (route ∷ routes) k) node) ends ∙ ap (λ x. nat_eq x node) (end_inside route routes k last)))
              (n ∙ sym (ap (λ (l : LaneAt). l.hop + 1) here))
              (sym (add-zero offset) ∙ sym (ap (λ x. offset + x) (offset_inside route routes k last)))
              (sym (ap (λ (l : LaneAt). l.count) here)))
          | inr later ↦
              let e : (k + 1) - length route.links ≡ (k - length route.links) + 1 = omega (arith, later) in
              let d : lanes + k ≡ (lanes + length route.links) + (k - length route.links) = omega (arith, later) in
              let here = beyond route routes k later in
              let next : lane_at (lanes_of (route ∷ routes)) (k + 1) ≡ lane_at (lanes_of routes) ((k - length route.links) + 1) =
              beyond route routes (k + 1) past ∙ ap (lane_at (lanes_of routes)) e in
              rw (
                not_last route lanes offset (lanes + k) (apart (length route.links) lanes k (λ f. omega (arith, later, f))),
                none_if (nat_eq route.end node),
              )
              (ap (λ x. flat_map (got x) (computes_of node (lanes + length route.links) (offset + route.count) routes)) d
              ∙ all_routes (lanes + length route.links) (offset + route.count) routes (k - length route.links)
              ∙ sym (come_same
              (nat_eq (lane_at (lanes_of (route ∷ routes)) (k + 1)).hop 0 && nat_eq (end_at (route ∷ routes) k) node)
              (nat_eq (lane_at (lanes_of routes) ((k - length route.links) + 1)).hop 0 && nat_eq (end_at routes (k - length route.links)) node)
              ((lane_at (lanes_of (route ∷ routes)) k).hop + 1) ((lane_at (lanes_of routes) (k - length route.links)).hop + 1)
              (offset + offset_at (route ∷ routes) k) ((offset + route.count) + offset_at routes (k - length route.links))
              (lane_at (lanes_of (route ∷ routes)) k).count (lane_at (lanes_of routes) (k - length route.links)).count
              (ap (λ (l : LaneAt). nat_eq l.hop 0 && nat_eq (end_at (route ∷ routes) k) node) next
              ∙ ap (λ x. nat_eq (lane_at (lanes_of routes) ((k - length route.links) + 1)).hop 0 && nat_eq x node) (end_beyond route routes k later))
              (ap (λ (l : LaneAt). l.hop + 1) here)
              (ap (λ x. offset + x) (offset_beyond route routes k later) ∙ sym (add_assoc offset route.count (offset_at routes (k - length route.links))))
              (ap (λ (l : LaneAt). l.count) here)))
        ]
      ]
    where
      apart : (n lanes k : ℕ) → (n ≡ k + 1 → ⊥) → (nat_le 1 n && nat_eq (lanes + n) ((lanes + k) + 1)) ≡ false
      apart n lanes k other = let not_same : nat_eq (lanes + n) ((lanes + k) + 1) ≡ false = ne_eqb (lanes + n) ((lanes + k) + 1) (λ e. other (omega (arith, e))) in and_right (nat_le 1 n) _ not_same

      at_last : (n lanes k : ℕ) → n ≡ k + 1 → (nat_le 1 n && nat_eq (lanes + n) ((lanes + k) + 1)) ≡ true
      at_last n lanes k e = and_from (nat_le 1 n) (nat_eq (lanes + n) ((lanes + k) + 1)) (le-leb 1 n (omega (arith, e))) (eq-eqb (lanes + n) ((lanes + k) + 1) (omega (arith, e)))
