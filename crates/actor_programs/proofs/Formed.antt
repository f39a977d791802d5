-- The wiring of a table that fits is well-formed.
use Rattle.std.proofs.Common.{◌≡◌, ◌≢◌, ℕ, zero, suc, ◌+◌, ◌-◌, ◌<◌, ◌≤◌, ◌^◌, Bool, true, false, cond, nat_eq, List, [], ◌∷◌, ◌++◌, length, map, filter, max, sym, refl, ap, ◌∙◌, inl, inr, ⊎_elim, subst, arith, All, Option, Some, None, slice_get, length-append}
use Rattle.std.specs.Prelude.{IfSome}
use Rattle.std.specs.List.{flat_map, list_any, range_with_len}
use Rattle.std.specs.Option.{option_map_or}
use Rattle.std.proofs.lemmas.Bool.{cases_lt}
use Rattle.std.proofs.lemmas.List.{length-map}
use Rattle.std.proofs.lemmas.List.Elements.{All-nil, All-cons, All-head, All-tail, All-append, All-weaker, All-map, All-filter, All-get_or}
use Rattle.std.proofs.lemmas.List.Sums.{sum_by-cons, length-filter, count_by-le-length}
use Rattle.platform_file.specs.Platform.{IsLink}
use Rattle.platform_file.specs.Ticks.{TimedView, IsTimed}
use Rattle.schedule_model.specs.Operations.{no_link}
use Rattle.schedule_model.specs.declared.schedule.Series.TheVariants.{Tasking}
use Rattle.step_core.specs.declared.wiring.Event.{Event}
use Rattle.step_core.specs.declared.wiring.Event.TheVariants.{Take, Open, Close, Done}
use Rattle.step_core.specs.Wirings.{WiringView, actor_of, opening, taking, opens, takes, is_lane, program_of, HasLane, IsPaired, IsWellFormedWiring}
use Rattle.flow_routes.specs.declared.flow.Route.{Route}
use Rattle.period_table.specs.declared.table.Table.{Table}
use Rattle.period_table.specs.declared.table.Slot.{Slot}
use Rattle.period_table.specs.declared.table.Piece.{Piece}
use Rattle.period_table.specs.Lanes.{LaneAt, lanes_of, lane_at}
use Rattle.period_table.specs.Tables.{moved_over, IsSlot, IsPiece, IsRoute, Fits}
use Rattle.period_table.proofs.FittingTables.{links_exist, all_carry}
use Rattle.actor_programs.specs.Tasks.{joined_below}
use Rattle.actor_programs.specs.declared.run.Run.{Run}
use Rattle.actor_programs.specs.Runs.{taken, used, task_events, run_tasks, period_events, events_below}
use Rattle.actor_programs.specs.Programs.{lane_before, run_of, is_over, sends_of, computes_of, runs_of, actors_of, run_periods, program_from, lane_of, wiring_of}
use Rattle.actor_programs.specs.declared.actor.Actor.TheVariants.{Sender, Consumer}
use Rattle.actor_programs.proofs.Numbers.{length-numbers}
use Rattle.actor_programs.proofs.LaneNumbers.{length-lanes}
use Rattle.actor_programs.proofs.Runs.{tasks-count, does_open, in_slot}
use Rattle.actor_programs.proofs.Programs.{opens_over, takes_over, opened_below, taken_below, lane_tasks, in_none}
use Rattle.actor_programs.proofs.Acting.{entry, length-numbered, once, one_opens, one_takes}
use Rattle.actor_programs.specs.declared.actor.Actor.{Actor}

-- ---- what holds of a program, task by task

module _ (Q : List Event → Type 0) (nothing : Q []) (joins : (xs ys : List Event) → Q xs → Q ys → Q (xs ++ ys)) where
  of_flat : {X : Type 0} (f : X → List Event) (xs : List X) → All (λ x. Q (f x)) xs → Q (flat_map f xs)
  of_flat f [] each = nothing
  of_flat f (x ∷ xs) each = joins (f x) (flat_map f xs) (All-head (λ y. Q (f y)) x xs each) (of_flat f xs (All-tail (λ y. Q (f y)) x xs each))

  of_joined : (f : ℕ → List Event) → ((p : ℕ) → Q (f p)) → (n : ℕ) → Q (joined_below f n)
  of_joined f each zero = nothing
  of_joined f each (suc n) = joins (joined_below f n) (f n) (of_joined f each n) (each n)

  pub of_program : (tasks chunks number : ℕ) (runs : List Run) → All (λ run. (task : ℕ) → Q (task_events number run task)) runs → (n : ℕ) → Q (events_below tasks chunks number runs n)
  of_program tasks chunks number runs each n =
      of_joined (period_events tasks chunks number runs)
      (λ p. of_flat (λ run. flat_map (task_events number run) (run_tasks tasks chunks p run)) runs
      (All-weaker (λ run. (task : ℕ) → Q (task_events number run task)) (λ run. Q (flat_map (task_events number run) (run_tasks tasks chunks p run)))
      (λ run one. of_flat (task_events number run) (run_tasks tasks chunks p run) (λ i d l. one _)) runs each)) n

pub every : {X : Type 0} (P : X → Type 0) → ((x : X) → P x) → (xs : List X) → All P xs
every P all xs = λ i d l. all _

-- each event is its actor's
own_used : (number : ℕ) (lane : Option ℕ) (task : ℕ) → All (λ e. actor_of e ≡ number) (used number lane task)
own_used number None task = All-cons (λ e. actor_of e ≡ number) (Done number task) [] refl (All-nil (λ e. actor_of e ≡ number))
own_used number (Some l) task =
    All-cons (λ e. actor_of e ≡ number) (Open number l task) (Close number l task ∷ []) refl (All-cons (λ e. actor_of e ≡ number) (Close number l task) [] refl (All-nil (λ e. actor_of e ≡ number)))

own_task : (number : ℕ) (take lane : Option ℕ) (task : ℕ) → All (λ e. actor_of e ≡ number) (taken number take task ++ used number lane task)
own_task number None lane task = own_used number lane task
own_task number (Some m) lane task = All-cons (λ e. actor_of e ≡ number) (Take number m task) (used number lane task) refl (own_used number lane task)

pub own_events : (tasks chunks number : ℕ) (runs : List Run) (n : ℕ) → All (λ e. actor_of e ≡ number) (events_below tasks chunks number runs n)
own_events tasks chunks number runs n =
    of_program (All (λ e. actor_of e ≡ number)) (All-nil (λ e. actor_of e ≡ number)) (All-append (λ e. actor_of e ≡ number)) tasks chunks number runs
    (every (λ run. (task : ℕ) → All (λ e. actor_of e ≡ number) (task_events number run task)) (λ run task. own_task number run.take run.lane task) runs) n

-- each Open is followed by its Close
paired_task : (number : ℕ) (take lane : Option ℕ) (task : ℕ) → IsPaired (taken number take task ++ used number lane task)
paired_task number None None task = tt
paired_task number None (Some l) task = (refl, refl, tt)
paired_task number (Some m) None task = tt
paired_task number (Some m) (Some l) task = (refl, refl, tt)

paired_joins : (xs ys : List Event) → IsPaired xs → IsPaired ys → IsPaired (xs ++ ys)
paired_joins [] ys p q = q
paired_joins (Take a l t ∷ xs) ys p q = paired_joins xs ys p q
paired_joins (Done a t ∷ xs) ys p q = paired_joins xs ys p q
paired_joins (Close a l t ∷ xs) ys p q = absurd p
paired_joins (Open a l t ∷ []) ys p q = absurd p
paired_joins (Open a l t ∷ (Close b k u ∷ xs)) ys p q = (p.0, p.1, paired_joins xs ys p.2 q)
paired_joins (Open a l t ∷ (Open b k u ∷ xs)) ys p q = absurd p
paired_joins (Open a l t ∷ (Take b k u ∷ xs)) ys p q = absurd p
paired_joins (Open a l t ∷ (Done b u ∷ xs)) ys p q = absurd p

pub paired_events : (tasks chunks number : ℕ) (runs : List Run) (n : ℕ) → IsPaired (events_below tasks chunks number runs n)
paired_events tasks chunks number runs n =
    of_program IsPaired tt paired_joins tasks chunks number runs
    (every (λ run. (task : ℕ) → IsPaired (task_events number run task)) (λ run task. paired_task number run.take run.lane task) runs) n

-- ---- each run names lanes that exist

abbrev pub IsBelow : ℕ → Option ℕ → Type 0
IsBelow n o = IfSome o (λ l. l < n)

abbrev pub HasLanes : ℕ → Run → Type 0
HasLanes n run = IsBelow n run.take × IsBelow n run.lane

before_below : (hop lane n : ℕ) → lane ≤ n → IsBelow n (lane_before hop lane)
before_below zero lane n l = tt
before_below (suc hop) zero n l = tt
before_below (suc hop) (suc lane) n l = omega arith

sends_exist : (routes : List Route) (link : ℕ) (before slots : List Slot) → All (IsSlot (lanes_of routes)) slots → All (HasLanes (length (lanes_of routes))) (sends_of routes link before slots)
sends_exist routes link before [] each = All-nil (HasLanes (length (lanes_of routes)))
sends_exist routes link before (slot ∷ slots) each =
    All-append (HasLanes (length (lanes_of routes))) (map (run_of routes before) (filter (is_over routes link) slot.pieces)) (sends_of routes link (slot ∷ before) slots)
    (All-map (HasLanes (length (lanes_of routes))) (run_of routes before) (filter (is_over routes link) slot.pieces)
    (All-filter (is_over routes link) (λ piece. HasLanes (length (lanes_of routes)) (run_of routes before piece)) slot.pieces
    (All-weaker (IsPiece (lanes_of routes)) (λ piece. HasLanes (length (lanes_of routes)) (run_of routes before piece))
    (λ piece is. (before_below (lane_at (lanes_of routes) piece.lane).hop piece.lane (length (lanes_of routes)) (omega (arith, is.lane)), is.lane))
    slot.pieces (All-head (IsSlot (lanes_of routes)) slot slots each).pieces)))
    (sends_exist routes link (slot ∷ before) slots (All-tail (IsSlot (lanes_of routes)) slot slots each))

computes_exist : (node lanes offset : ℕ) (routes : List Route) (n : ℕ) → lanes + length (lanes_of routes) ≤ n → All (HasLanes n) (computes_of node lanes offset routes)
computes_exist node lanes offset [] n l = All-nil (HasLanes n)
computes_exist node lanes offset (route ∷ routes) n l =
    All-append (HasLanes n) (cond (nat_eq route.end node) (run ∷ []) []) (computes_of node (lanes + length route.links) (offset + route.count) routes)
    (one (nat_eq route.end node))
    (computes_exist node (lanes + length route.links) (offset + route.count) routes n (omega (arith, l, length-lanes route routes)))
  where
    run : Run
    run = record { take = lane_before (length route.links) (lanes + length route.links); lane = None; hop = length route.links; offset = offset; count = route.count }

    one : (b : Bool) → All (HasLanes n) (cond b (run ∷ []) [])
    one true = All-cons (HasLanes n) run [] (before_below (length route.links) (lanes + length route.links) n (omega (arith, l, length-lanes route routes)), tt) (All-nil (HasLanes n))
    one false = All-nil (HasLanes n)

lanes_task : (w : WiringView) (number : ℕ) (take lane : Option ℕ) (task : ℕ) → IsBelow (length w.lanes) take → IsBelow (length w.lanes) lane
    → All (HasLane w) (taken number take task ++ used number lane task)
lanes_task w number None None task p q = All-cons (HasLane w) (Done number task) [] tt (All-nil (HasLane w))
lanes_task w number None (Some l) task p q =
    All-cons (HasLane w) (Open number l task) (Close number l task ∷ []) q (All-cons (HasLane w) (Close number l task) [] q (All-nil (HasLane w)))
lanes_task w number (Some m) None task p q = All-cons (HasLane w) (Take number m task) (Done number task ∷ []) p (All-cons (HasLane w) (Done number task) [] tt (All-nil (HasLane w)))
lanes_task w number (Some m) (Some l) task p q =
    All-cons (HasLane w) (Take number m task) (Open number l task ∷ (Close number l task ∷ [])) p
    (All-cons (HasLane w) (Open number l task) (Close number l task ∷ []) q (All-cons (HasLane w) (Close number l task) [] q (All-nil (HasLane w))))

-- ---- numbers in a row

pub all_numbers : (P : ℕ → Type 0) (first n : ℕ) → ((k : ℕ) → k < first + n → P k) → All P (range_with_len first n)
all_numbers P first zero each = All-nil P
all_numbers P first (suc n) each = All-cons P first (range_with_len (first + 1) n) (each first (omega arith)) (all_numbers P (first + 1) n (λ k l. each k (omega (arith, l))))

-- ---- few lanes: each has a piece, which has a number of 32 bits

in_few : (n k : ℕ) (slots : List Slot) → n ≤ k → All (λ slot. All (λ piece. piece.lane < n) slot.pieces) slots → moved_over k slots ≡ 0
in_few n k [] past each = refl
in_few n k (slot ∷ slots) past each =
    both _ _ _ (sum_by-cons (λ (s : Slot). in_slot k s.pieces) slot slots)
    (in_none k slot.pieces (All-weaker (λ (q : Piece). q.lane < n) (λ (q : Piece). q.lane ≢ k) (λ q less e. omega (arith, less, past, e)) slot.pieces
    (All-head (λ (s : Slot). All (λ (q : Piece). q.lane < n) s.pieces) slot slots each)))
    (in_few n k slots past (All-tail (λ (s : Slot). All (λ (q : Piece). q.lane < n) s.pieces) slot slots each))
  where
    both : (a b c : ℕ) → a ≡ b + c → b ≡ 0 → c ≡ 0 → a ≡ 0
    both a b c e f g = omega arith

pub few_lanes : (t : TimedView) (table : Table) → Fits t Tasking table → (n : ℕ) → All (λ slot. All (λ piece. piece.lane < n) slot.pieces) table.slots → length (lanes_of table.routes) ≤ n
few_lanes t table fits n small = elim (cases_lt n (length (lanes_of table.routes))) [
  | inl more ↦
      let some = All-get_or (λ (l : LaneAt). 1 ≤ l.count) (lanes_of table.routes) n (record { link = 0; hop = 0; kind = 0; count = 0 }) more
      (all_carry (λ c. 1 ≤ c) table.routes (All-weaker (IsRoute t Tasking) (λ route. 1 ≤ route.count) (λ route r. r.some) table.routes fits.routes)) in
      absurd (omega (arith, some, fits.moved n more, in_few n n table.slots (omega arith) small))
  | inr few ↦ few
]

-- ---- the wiring

some_from : (b : Bool) (xs : List ℕ) → 0 < length (cond b xs []) → b ≡ true
some_from true xs l = refl
some_from false xs l = absurd (omega (arith, l))

module _ (t : TimedView) (table : Table) (chunks : ℕ) where
  pub length-wired : length (wiring_of t table chunks).lanes ≡ length (lanes_of table.routes)
  length-wired = length-map (range_with_len 0 (length (lanes_of table.routes))) (lane_of t table chunks) ∙ length-numbers 0 (length (lanes_of table.routes))

  -- what holds of each actor's program, and of none
  pub each_program : (P : ℕ → List Event → Type 0) → ((a : ℕ) → P a []) → ((a : ℕ) (actor : Actor) → P a (program_from table chunks a actor)) → (a : ℕ) → P a (program_of (wiring_of t table chunks) a)
  each_program P nothing each a = ⊎_elim
      (λ (e : (actor : Actor) × (slice_get (actors_of t table) a ≡ Some actor) × (program_of (wiring_of t table chunks) a ≡ program_from table chunks (0 + a) actor)).
      let n : 0 + a ≡ a = omega arith in
      subst (P a) (sym (e.2 ∙ ap (λ x. program_from table chunks x e.0) n)) (each a e.0))
      (λ (e : (slice_get (actors_of t table) a ≡ None) × (program_of (wiring_of t table chunks) a ≡ [])). subst (P a) (sym e.1) (nothing a))
      (entry (program_from table chunks) 0 (actors_of t table) a [])

  -- an actor with a program that isn't empty
  pub acting : (a : ℕ) → 0 < length (program_of (wiring_of t table chunks) a)
      → (actor : Actor) × (slice_get (actors_of t table) a ≡ Some actor) × (program_of (wiring_of t table chunks) a ≡ program_from table chunks a actor)
  acting a some = ⊎_elim
      (λ (e : (actor : Actor) × (slice_get (actors_of t table) a ≡ Some actor) × (program_of (wiring_of t table chunks) a ≡ program_from table chunks (0 + a) actor)).
      let n : 0 + a ≡ a = omega arith in (e.0, e.1, e.2 ∙ ap (λ x. program_from table chunks x e.0) n))
      (λ (e : (slice_get (actors_of t table) a ≡ None) × (program_of (wiring_of t table chunks) a ≡ [])). absurd (omega (arith, some, ap length e.1)))
      (entry (program_from table chunks) 0 (actors_of t table) a [])

  pub owned : (a : ℕ) → All (λ e. actor_of e ≡ a) (program_of (wiring_of t table chunks) a)
  owned a = each_program (λ a es. All (λ e. actor_of e ≡ a) es) (λ a. All-nil (λ e. actor_of e ≡ a)) (λ a actor. own_events table.tasks chunks a (runs_of table actor) (run_periods table chunks)) a

  module _ (timed : IsTimed t) (fits : Fits t Tasking table) where
    runs_exist : (actor : Actor) → All (HasLanes (length (wiring_of t table chunks).lanes)) (runs_of table actor)
    runs_exist (Sender link) = rw length-wired (sends_exist table.routes link [] table.slots fits.slots)
    runs_exist (Consumer node) = rw length-wired (computes_exist node 0 0 table.routes (length (lanes_of table.routes)) (omega arith))

    pub lanes_there : (a : ℕ) → All (HasLane (wiring_of t table chunks)) (program_of (wiring_of t table chunks) a)
    lanes_there a =
        each_program (λ a es. All (HasLane (wiring_of t table chunks)) es) (λ a. All-nil (HasLane (wiring_of t table chunks)))
        (λ a actor. of_program (All (HasLane (wiring_of t table chunks))) (All-nil (HasLane (wiring_of t table chunks))) (All-append (HasLane (wiring_of t table chunks)))
        table.tasks chunks a (runs_of table actor)
        (All-weaker (HasLanes (length (wiring_of t table chunks).lanes)) (λ run. (task : ℕ) → All (HasLane (wiring_of t table chunks)) (task_events a run task))
        (λ run has task. lanes_task (wiring_of t table chunks) a run.take run.lane task has.0 has.1) (runs_of table actor) (runs_exist actor)) (run_periods table chunks)) a

    lane_ends : (k : ℕ) → k < length (lanes_of table.routes) → ((lane_of t table chunks k).sender < length t.platform.nodes) × ((lane_of t table chunks k).receiver < length t.platform.nodes)
    lane_ends k l =
        let exists = All-get_or (λ (lane : LaneAt). lane.link < length t.platform.links) (lanes_of table.routes) k (record { link = 0; hop = 0; kind = 0; count = 0 }) l (links_exist t Tasking table fits) in
        let joins = All-get_or (IsLink t.platform.nodes) t.platform.links (lane_at (lanes_of table.routes) k).link no_link exists timed.platform.links in
        (joins.leaves, joins.enters)

    -- who opens a lane, and who takes from it
    pub opens_it : (k a : ℕ) → 0 < opens (is_lane k) (program_of (wiring_of t table chunks) a)
        → (actor : Actor) × (slice_get (actors_of t table) a ≡ Some actor) × (opens_over table.routes k actor ≡ true)
    opens_it k a some =
        let x = acting a (omega (arith, some, count_by-le-length (λ e. option_map_or (is_lane k) (opening e) false) (program_of (wiring_of t table chunks) a))) in
        let e : opens (is_lane k) (program_of (wiring_of t table chunks) a) ≡ opens (is_lane k) (program_from table chunks a x.0) = ap (opens (is_lane k)) x.2 in
        let f = ap length (opened_below t Tasking table fits chunks k opening does_open a x.0 (run_periods table chunks)) in
        (x.0, x.1, some_from (opens_over table.routes k x.0) (lane_tasks t Tasking table fits chunks k (run_periods table chunks - (lane_at (lanes_of table.routes) k).hop)) (omega (arith, some, e, f, tasks-count opening k (program_from table chunks a x.0))))

    pub takes_it : (k a : ℕ) → 0 < takes (is_lane k) (program_of (wiring_of t table chunks) a)
        → (actor : Actor) × (slice_get (actors_of t table) a ≡ Some actor) × (takes_over table.routes k actor ≡ true)
    takes_it k a some =
        let x = acting a (omega (arith, some, count_by-le-length (λ e. option_map_or (is_lane k) (taking e) false) (program_of (wiring_of t table chunks) a))) in
        let e : takes (is_lane k) (program_of (wiring_of t table chunks) a) ≡ takes (is_lane k) (program_from table chunks a x.0) = ap (takes (is_lane k)) x.2 in
        let f = ap length (taken_below t Tasking table fits chunks k a x.0 (run_periods table chunks)) in
        (x.0, x.1, some_from (takes_over table.routes k x.0) (lane_tasks t Tasking table fits chunks k (run_periods table chunks - ((lane_at (lanes_of table.routes) k).hop + 1))) (omega (arith, some, e, f, tasks-count taking k (program_from table chunks a x.0))))

    pub formed : All (λ slot. All (λ piece. piece.lane < 2 ^ 32) slot.pieces) table.slots → IsWellFormedWiring (wiring_of t table chunks)
    formed small = record {
      few_lanes = rw length-wired (few_lanes t table fits (2 ^ 32) small);
      few_actors = few_actors;
      ends = All-map (λ lane. (lane.sender < length t.platform.nodes) × (lane.receiver < length t.platform.nodes)) (lane_of t table chunks) (range_with_len 0 (length (lanes_of table.routes)))
          (all_numbers (λ k. ((lane_of t table chunks k).sender < length t.platform.nodes) × ((lane_of t table chunks k).receiver < length t.platform.nodes)) 0 (length (lanes_of table.routes))
          (λ k l. lane_ends k (omega (arith, l))));
      room = All-map (λ lane. 1 ≤ lane.capacity) (lane_of t table chunks) (range_with_len 0 (length (lanes_of table.routes)))
          (all_numbers (λ k. 1 ≤ (lane_of t table chunks k).capacity) 0 (length (lanes_of table.routes)) (λ k l. at_least_one _));
      own = owned;
      lanes_exist = lanes_there;
      paired = each_program (λ a es. IsPaired es) (λ a. tt) (λ a actor. paired_events table.tasks chunks a (runs_of table actor) (run_periods table chunks));
      one_opener = λ lane a b p q.
          let x = opens_it lane a p in let y = opens_it lane b q in
          once t table a b x.0 x.1 (y.1 ∙ ap Some (one_opens t table lane y.0 x.0 y.2 x.2));
      one_taker = λ lane a b p q.
          let x = takes_it lane a p in let y = takes_it lane b q in
          once t table a b x.0 x.1 (y.1 ∙ ap Some (one_takes t table lane y.0 x.0 y.2 x.2));
    }
      where
        at_least_one : (n : ℕ) → 1 ≤ max 1 n
        at_least_one n = omega arith

        few : (p : ℕ → Bool) (make : ℕ → Actor) (n : ℕ) → length (map make (filter p (range_with_len 0 n))) ≤ n
        few p make n =
            omega (arith, length-map (filter p (range_with_len 0 n)) make, length-filter p (range_with_len 0 n), count_by-le-length p (range_with_len 0 n), length-numbers 0 n)

        few_actors : length (wiring_of t table chunks).programs ≤ 2 ^ 32
        few_actors =
            let links = map Sender (filter (λ link. list_any (λ lane. nat_eq lane.link link) (lanes_of table.routes)) (range_with_len 0 (length t.platform.links))) in
            let nodes = map Consumer (filter (λ node. list_any (λ route. nat_eq route.end node) table.routes) (range_with_len 0 (length t.platform.nodes))) in
            omega (
              arith,
              length-numbered (program_from table chunks) 0 (actors_of t table),
              length-append links nodes,
              few (λ link. list_any (λ lane. nat_eq lane.link link) (lanes_of table.routes)) Sender (length t.platform.links),
              few (λ node. list_any (λ route. nat_eq route.end node) table.routes) Consumer (length t.platform.nodes),
              timed.platform.few_nodes,
              timed.platform.few_links,
            )
