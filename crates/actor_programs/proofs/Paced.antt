-- The wiring of a table that fits is paced by the periods of its events.
use Rattle.std.proofs.Common.{◌≡◌, ℕ, zero, suc, ◌+◌, ◌-◌, ◌*◌, ◌<◌, ◌≤◌, Bool, true, false, cond, List, [], ◌∷◌, length, take, max, min, sum_by, count_by, sym, refl, ap, ◌∙◌, inl, inr, ⊎_elim, subst, arith, All, Option, Some, None, slice_get, slice_index_or}
use Rattle.std.specs.List.{range_with_len}
use Rattle.std.specs.Prelude.{IfSome}
use Rattle.std.specs.Option.{option_map_or, option_map}
use Rattle.std.proofs.lemmas.Bool.{cases_lt, cond-true, eqb-true, eq-eqb, false≢true}
use Rattle.std.proofs.lemmas.List.Elements.{All-get_or, All-head}
use Rattle.std.proofs.lemmas.List.Sums.{sum_by-cons}
use Rattle.std.proofs.lemmas.Option.{slice_get_within, slice_get-map, get_or_from_slice_get}
use Rattle.platform_file.specs.Ticks.{TimedView, IsTimed}
use Rattle.schedule_model.specs.declared.schedule.Series.TheVariants.{Tasking}
use Rattle.step_core.specs.declared.wiring.Event.{Event}
use Rattle.step_core.specs.declared.wiring.Event.TheVariants.{Take, Open, Close, Done}
use Rattle.step_core.specs.declared.wiring.Lane.{Lane}
use Rattle.step_core.specs.Wirings.{WiringView, actor_of, opening, closing, taking, opens, takes, is_lane, program_of, HasLane}
use Rattle.step_core.specs.Paced.{period_of, before, IsClosedBefore, HasRoomBefore, IsPaced}
use Rattle.period_table.specs.declared.table.Table.{Table}
use Rattle.period_table.specs.Lanes.{lanes_of, lane_at}
use Rattle.period_table.specs.Tables.{IsRoute, Fits}
use Rattle.flow_routes.specs.declared.flow.Route.{Route}
use Rattle.actor_programs.specs.Tasks.{joined_below, all_tasks, offset_at}
use Rattle.actor_programs.specs.Runs.{period_events, numbers_below, events_below}
use Rattle.actor_programs.specs.Programs.{runs_of, actors_of, run_periods, program_from, periods_from, each_numbered, capacity_of, lane_of, wiring_of, periods_of}
use Rattle.actor_programs.proofs.Joined.{number-within, numbers-rise, as_many_numbers, count-within_number, find_below}
use Rattle.actor_programs.proofs.Numbers.{so_many, two_more, one_batch, at_most_all}
use Rattle.actor_programs.proofs.LaneNumbers.{capacity_is}
use Rattle.actor_programs.proofs.Runs.{tasks-count, does_open, does_close}
use Rattle.actor_programs.proofs.Programs.{opens_over, takes_over, lane_tasks, opened_below, taken_below}
use Rattle.actor_programs.proofs.Acting.{entry, length-numbered, opener, taker}
use Rattle.actor_programs.proofs.Formed.{length-wired, acting, owned, lanes_there, opens_it, takes_it}
use Rattle.actor_programs.specs.declared.actor.Actor.{Actor}

length_if : (b : Bool) (xs : List ℕ) → length (cond b xs []) ≤ length xs
length_if true xs = omega arith
length_if false xs = omega arith

module _ (t : TimedView) (table : Table) (chunks : ℕ) where
  -- the program and the periods of an actor that is there
  abbrev w : WiringView
  w = wiring_of t table chunks

  abbrev places : List (List ℕ)
  places = periods_of t table chunks

  entry_of : {X : Type 0} (make : ℕ → Actor → X) (a : ℕ) (actor : Actor) (d : X) → slice_get (actors_of t table) a ≡ Some actor
      → slice_index_or (each_numbered make 0 (actors_of t table)) a d ≡ make a actor
  entry_of make a actor d is = ⊎_elim
      (λ (e : (x : Actor) × (slice_get (actors_of t table) a ≡ Some x) × (slice_index_or (each_numbered make 0 (actors_of t table)) a d ≡ make (0 + a) x)).
      let n : 0 + a ≡ a = omega arith in
      let same : e.0 ≡ actor = cc in
      e.2 ∙ ap (λ k. make k e.0) n ∙ ap (make a) same)
      (λ (e : (slice_get (actors_of t table) a ≡ None) × (slice_index_or (each_numbered make 0 (actors_of t table)) a d ≡ d)). absurd (cc))
      (entry make 0 (actors_of t table) a d)

  pub program_is : (a : ℕ) (actor : Actor) → slice_get (actors_of t table) a ≡ Some actor → program_of w a ≡ program_from table chunks a actor
  program_is a actor is = entry_of (program_from table chunks) a actor [] is

  periods_are : (a : ℕ) (actor : Actor) → slice_get (actors_of t table) a ≡ Some actor → slice_index_or places a [] ≡ periods_from table chunks a actor
  periods_are a actor is = entry_of (periods_from table chunks) a actor [] is

  -- the period of the event at a place of an actor's program
  pub period_is : (a i : ℕ) (actor : Actor) → slice_get (actors_of t table) a ≡ Some actor
      → period_of places a i ≡ slice_index_or (numbers_below (period_events table.tasks chunks a (runs_of table actor)) (run_periods table chunks)) i 0
  period_is a i actor is = ap (λ ps. slice_index_or ps i 0) (periods_are a actor is)

  -- an event that passes a test has fewer such before it than its actor's periods up to its own have
  module _ (p : Event → Bool) (a i : ℕ) (e : Event) (is : slice_get (program_of w a) i ≡ Some e) (passes : p e ≡ true) where
    abbrev Numbered : Actor → Type 0
    Numbered actor = (count_by p (before w a i) < count_by p (events_below table.tasks chunks a (runs_of table actor) (period_of places a i + 1)))
        × (period_of places a i < run_periods table chunks)

    numbered_for : (actor : Actor) → slice_get (actors_of t table) a ≡ Some actor → Numbered actor
    numbered_for actor there =
        let f = period_events table.tasks chunks a (runs_of table actor) in
        let same = program_is a actor there in
        let stands : slice_get (program_from table chunks a actor) i ≡ Some e = ap (λ es. slice_get es i) (sym same) ∙ is in
        let n = period_is a i actor there in
        let less = count-within_number f p (run_periods table chunks) i e stands passes in
        let within = number-within f (run_periods table chunks) i (slice_get_within (program_from table chunks a actor) i e stands) in
        let left : count_by p (before w a i) ≡ count_by p (take i (program_from table chunks a actor)) = ap (λ es. count_by p (take i es)) same in
        let right : count_by p (events_below table.tasks chunks a (runs_of table actor) (period_of places a i + 1))
        ≡ count_by p (joined_below f (slice_index_or (numbers_below f (run_periods table chunks)) i 0 + 1)) = ap (λ k. count_by p (joined_below f (k + 1))) n in
        (omega (arith, less, left, right), omega (arith, within.0, n))

    event_numbered : (actor : Actor) × (slice_get (actors_of t table) a ≡ Some actor) × Numbered actor
    event_numbered =
        let x = acting t table chunks a (omega (arith, slice_get_within (program_of w a) i e is)) in
        (x.0, x.1, numbered_for x.0 x.1)

  -- where an actor's first periods have more than k events that pass, it has one with k before it, in one of these
  event_found : (p : Event → Bool) (a : ℕ) (actor : Actor) → slice_get (actors_of t table) a ≡ Some actor → (m k : ℕ) → m ≤ run_periods table chunks
      → k < count_by p (events_below table.tasks chunks a (runs_of table actor) m)
      → (j : ℕ) × (e : Event) × (slice_get (program_of w a) j ≡ Some e) × (p e ≡ true) × (count_by p (before w a j) ≡ k) × (period_of places a j < m)
  event_found p a actor there m k le more =
      let f = period_events table.tasks chunks a (runs_of table actor) in
      let same = program_is a actor there in
      let r = find_below f p m (run_periods table chunks) k le more in (
        r.0,
        r.1,
        ap (λ es. slice_get es r.0) same ∙ r.2,
        r.3,
        ap (λ es. count_by p (take r.0 es)) same ∙ r.4,
        omega (arith, r.5, period_is a r.0 actor there),
      )

  -- the kinds of event that pass
  is_close : (a k : ℕ) (e : Event) → actor_of e ≡ a → option_map_or (is_lane k) (closing e) false ≡ true → (task : ℕ) × (e ≡ Close a k task)
  is_close a k (Close b l u) own passes = let same = eqb-true l k passes in (u, cc)
  is_close a k (Take b l u) own passes = absurd (false≢true passes)
  is_close a k (Open b l u) own passes = absurd (false≢true passes)
  is_close a k (Done b u) own passes = absurd (false≢true passes)

  is_take : (a k : ℕ) (e : Event) → actor_of e ≡ a → option_map_or (is_lane k) (taking e) false ≡ true → (task : ℕ) × (e ≡ Take a k task)
  is_take a k (Take b l u) own passes = let same = eqb-true l k passes in (u, cc)
  is_take a k (Close b l u) own passes = absurd (false≢true passes)
  is_take a k (Open b l u) own passes = absurd (false≢true passes)
  is_take a k (Done b u) own passes = absurd (false≢true passes)

  event_own : (a i : ℕ) (e : Event) → slice_get (program_of w a) i ≡ Some e → actor_of e ≡ a
  event_own a i e is =
      let o = All-get_or (λ (x : Event). actor_of x ≡ a) (program_of w a) i e (slice_get_within (program_of w a) i e is) (owned t table chunks a) in
      rw (get_or_from_slice_get (program_of w a) i e e is) at o

  module _ (timed : IsTimed t) (fits : Fits t Tasking table) where
    -- how many tasks go over a lane in its first batches
    abbrev so_far : ℕ → ℕ → ℕ
    so_far k n = so_many table.tasks chunks (offset_at table.routes k) (lane_at (lanes_of table.routes) k).count n

    abbrev hop_of : ℕ → ℕ
    hop_of k = (lane_at (lanes_of table.routes) k).hop

    -- an actor's opens, closes and takes in the first periods
    opens_below : (k a : ℕ) (actor : Actor) (n : ℕ) → count_by (λ e. option_map_or (is_lane k) (opening e) false) (events_below table.tasks chunks a (runs_of table actor) n) ≤ so_far k (n - hop_of k)
    opens_below k a actor n =
        omega (
          arith,
          tasks-count opening k (events_below table.tasks chunks a (runs_of table actor) n),
          ap length (opened_below t Tasking table fits chunks k opening does_open a actor n),
          length_if (opens_over table.routes k actor) (lane_tasks t Tasking table fits chunks k (n - hop_of k)),
        )

    takes_below : (k a : ℕ) (actor : Actor) (n : ℕ) → count_by (λ e. option_map_or (is_lane k) (taking e) false) (events_below table.tasks chunks a (runs_of table actor) n) ≤ so_far k (n - (hop_of k + 1))
    takes_below k a actor n =
        omega (
          arith,
          tasks-count taking k (events_below table.tasks chunks a (runs_of table actor) n),
          ap length (taken_below t Tasking table fits chunks k a actor n),
          length_if (takes_over table.routes k actor) (lane_tasks t Tasking table fits chunks k (n - (hop_of k + 1))),
        )

    closes_are : (k a : ℕ) (actor : Actor) (n : ℕ) → opens_over table.routes k actor ≡ true
        → count_by (λ e. option_map_or (is_lane k) (closing e) false) (events_below table.tasks chunks a (runs_of table actor) n) ≡ so_far k (n - hop_of k)
    closes_are k a actor n opens_it =
        sym (tasks-count closing k (events_below table.tasks chunks a (runs_of table actor) n))
        ∙ ap length (opened_below t Tasking table fits chunks k closing does_close a actor n
        ∙ cond-true (opens_over table.routes k actor) (lane_tasks t Tasking table fits chunks k (n - hop_of k)) [] opens_it)

    takes_are : (k a : ℕ) (actor : Actor) (n : ℕ) → takes_over table.routes k actor ≡ true
        → count_by (λ e. option_map_or (is_lane k) (taking e) false) (events_below table.tasks chunks a (runs_of table actor) n) ≡ so_far k (n - (hop_of k + 1))
    takes_are k a actor n takes_it =
        sym (tasks-count taking k (events_below table.tasks chunks a (runs_of table actor) n))
        ∙ ap length (taken_below t Tasking table fits chunks k a actor n
        ∙ cond-true (takes_over table.routes k actor) (lane_tasks t Tasking table fits chunks k (n - (hop_of k + 1))) [] takes_it)

    -- the lane of an event exists
    lane_there : (a i : ℕ) (e : Event) → slice_get (program_of w a) i ≡ Some e → HasLane w e
    lane_there a i e is =
        let has = All-get_or (HasLane w) (program_of w a) i e (slice_get_within (program_of w a) i e is) (lanes_there t table chunks timed fits a) in
        rw (get_or_from_slice_get (program_of w a) i e e is) at has

    -- what is taken was closed in an earlier period
    comes : (a i k task : ℕ) → slice_get (program_of w a) i ≡ Some (Take a k task) → IsClosedBefore w places k (takes (is_lane k) (before w a i)) (period_of places a i)
    comes a i k task is =
        let inside : k < length (lanes_of table.routes) = rw (length-wired t table chunks) at (lane_there a i (Take a k task) is) in
        let x = event_numbered (λ e. option_map_or (is_lane k) (taking e) false) a i (Take a k task) is (eq-eqb k k refl) in
        let o = opener t table timed fits k inside in
        let e : (period_of places a i + 1) - (hop_of k + 1) ≡ period_of places a i - hop_of k = omega arith in
        let r = event_found (λ e. option_map_or (is_lane k) (closing e) false) o.0 o.1 o.2 (period_of places a i) (takes (is_lane k) (before w a i)) (omega (arith, x.2.1))
        (omega (arith, x.2.0, takes_below k a x.0 (period_of places a i + 1), ap (so_far k) e, closes_are k o.0 o.1 (period_of places a i) o.3)) in
        let c = is_close o.0 k r.1 (event_own o.0 r.0 r.1 r.2) r.3 in
        record { actor = o.0; place = r.0; task = c.0; stands = r.2 ∙ ap Some c.1; numbered = r.4; earlier = r.5 }

    -- where there is a lane, there are tasks
    pub some_tasks : (k : ℕ) → k < length (lanes_of table.routes) → 1 ≤ table.tasks
    some_tasks k l = of_routes table.routes l fits.routes fits.tasks
      where
        of_routes : (routes : List Route) → k < length (lanes_of routes) → All (IsRoute t Tasking) routes → table.tasks ≡ sum_by (λ route. route.count) routes → 1 ≤ table.tasks
        of_routes [] l each e = absurd (omega (arith, l))
        of_routes (route ∷ routes) l each e =
            omega (arith, e, sum_by-cons (λ (r : Route). r.count) route routes, (All-head (IsRoute t Tasking) route routes each).some)

    lane_is : (k : ℕ) → k < length (lanes_of table.routes) → slice_get w.lanes k ≡ Some (lane_of t table chunks k)
    lane_is k l =
        slice_get-map (lane_of t table chunks) (range_with_len 0 (length (lanes_of table.routes))) k
        ∙ ap (option_map (lane_of t table chunks)) (at 0 (length (lanes_of table.routes)) k k l (omega arith))
      where
        at : (first n i j : ℕ) → i < n → j ≡ first + i → slice_get (range_with_len first n) i ≡ Some j
        at first zero i j l e = absurd (omega arith)
        at first (suc n) zero j l e = ap Some (omega (arith, e))
        at first (suc n) (suc i) j l e = at (first + 1) n i j (omega arith) (omega (arith, e))

    -- what is opened up to a period, and taken before it
    two_batches : (k p : ℕ) → so_far k ((p + 1) - hop_of k) ≤ so_far k (p - (hop_of k + 1)) + 2 * (lane_at (lanes_of table.routes) k).count
    two_batches k p = of_hop (hop_of k)
      where
        of_hop : (h : ℕ) → so_far k ((p + 1) - h) ≤ so_far k (p - (h + 1)) + 2 * (lane_at (lanes_of table.routes) k).count
        of_hop h = elim (cases_lt p h) [
          | inl early ↦ let e : (p + 1) - h ≡ 0 = omega (arith, early) in omega (arith, ap (so_far k) e)
          | inr there ↦ elim (cases_lt p (h + 1)) [
            | inl first ↦
                let e : (p + 1) - h ≡ 1 = omega (arith, first, there) in
                omega (arith, ap (so_far k) e, one_batch table.tasks chunks (offset_at table.routes k) (lane_at (lanes_of table.routes) k).count)
            | inr later ↦
                let e : (p + 1) - h ≡ suc (suc (p - (h + 1))) = omega (arith, later) in
                omega (arith, ap (so_far k) e, two_more table.tasks chunks (offset_at table.routes k) (lane_at (lanes_of table.routes) k).count (p - (h + 1)))
          ]
        ]

    -- what is opened has room, or what makes room was taken in an earlier period
    has_room : (a i k task : ℕ) → slice_get (program_of w a) i ≡ Some (Open a k task)
        → HasRoomBefore w places k (capacity_of table chunks k) (opens (is_lane k) (before w a i)) (period_of places a i)
    has_room a i k task is =
        let inside : k < length (lanes_of table.routes) = rw (length-wired t table chunks) at (lane_there a i (Open a k task) is) in
        let x = event_numbered (λ e. option_map_or (is_lane k) (opening e) false) a i (Open a k task) is (eq-eqb k k refl) in
        let o = taker t table timed fits k inside in
        let p = period_of places a i in
        let far : opens (is_lane k) (before w a i) < so_far k ((p + 1) - hop_of k) = omega (arith, x.2.0, opens_below k a x.0 (p + 1)) in
        let all : so_far k ((p + 1) - hop_of k) ≤ length (all_tasks table.tasks chunks (offset_at table.routes k) (lane_at (lanes_of table.routes) k).count) =
        at_most_all table.tasks chunks (offset_at table.routes k) (lane_at (lanes_of table.routes) k).count (some_tasks k inside) ((p + 1) - hop_of k) in
        elim (cases_lt (opens (is_lane k) (before w a i)) (capacity_of table chunks k)) [
          | inl few ↦ inl few
          | inr many ↦
              let less = room_left (opens (is_lane k) (before w a i)) (so_far k ((p + 1) - hop_of k)) _ (so_far k (p - (hop_of k + 1))) (lane_at (lanes_of table.routes) k).count (capacity_of table chunks k)
              far all (two_batches k p) (capacity_is table chunks k) many in
              let r = event_found (λ e. option_map_or (is_lane k) (taking e) false) o.0 o.1 o.2 p (opens (is_lane k) (before w a i) - capacity_of table chunks k) (omega (arith, x.2.1))
              (omega (arith, less, takes_are k o.0 o.1 p o.3)) in
              let c = is_take o.0 k r.1 (event_own o.0 r.0 r.1 r.2) r.3 in
              inr (
                opens (is_lane k) (before w a i) - capacity_of table chunks k,
                omega (arith, many),
                record { actor = o.0; place = r.0; task = c.0; stands = r.2 ∙ ap Some c.1; numbered = r.4; earlier = r.5 },
              )
        ]
      where
        room_left : (n far total taken c room : ℕ) → n < far → far ≤ total → far ≤ taken + 2 * c → room ≡ max 1 (min (2 * c) total) → room ≤ n → n - room < taken
        room_left n far total taken c room l m r e h = omega arith

    rooms : (a i k task : ℕ) → slice_get (program_of w a) i ≡ Some (Open a k task)
        → IfSome (slice_get w.lanes k) (λ lane. HasRoomBefore w places k lane.capacity (opens (is_lane k) (before w a i)) (period_of places a i))
    rooms a i k task is =
        let inside : k < length (lanes_of table.routes) = rw (length-wired t table chunks) at (lane_there a i (Open a k task) is) in
        subst (λ (o : Option Lane). IfSome o (λ lane. HasRoomBefore w places k lane.capacity (opens (is_lane k) (before w a i)) (period_of places a i)))
        (sym (lane_is k inside)) (has_room a i k task is)

    pub paced : IsPaced w places
    paced = record {
      one_each = length-numbered (periods_from table chunks) 0 (actors_of t table) ∙ sym (length-numbered (program_from table chunks) 0 (actors_of t table));
      as_long = as_long;
      rising = rising;
      come = comes;
      room = rooms;
    }
      where
        as_long : (a : ℕ) → length (slice_index_or places a []) ≡ length (program_of w a)
        as_long a = ⊎_elim
            (λ (e : (x : Actor) × (slice_get (actors_of t table) a ≡ Some x) × (program_of w a ≡ program_from table chunks (0 + a) x)).
            ap length (periods_are a e.0 e.1) ∙ as_many_numbers (period_events table.tasks chunks a (runs_of table e.0)) (run_periods table chunks) ∙ sym (ap length (program_is a e.0 e.1)))
            (λ (none : (slice_get (actors_of t table) a ≡ None) × (program_of w a ≡ [])). ⊎_elim
            (λ (e : (x : Actor) × (slice_get (actors_of t table) a ≡ Some x) × (slice_index_or places a [] ≡ periods_from table chunks (0 + a) x)). absurd (cc))
            (λ (e : (slice_get (actors_of t table) a ≡ None) × (slice_index_or places a [] ≡ [])). ap length e.1 ∙ sym (ap length none.1))
            (entry (periods_from table chunks) 0 (actors_of t table) a []))
            (entry (program_from table chunks) 0 (actors_of t table) a [])

        rising : (a i j : ℕ) → i ≤ j → j < length (program_of w a) → period_of places a i ≤ period_of places a j
        rising a i j le l =
            let x = acting t table chunks a (omega (arith, l)) in
            let f = period_events table.tasks chunks a (runs_of table x.0) in
            let r = numbers-rise f (run_periods table chunks) i j le (omega (arith, l, ap length x.2)) in
            omega (arith, r, period_is a i x.0 x.1, period_is a j x.0 x.1)
