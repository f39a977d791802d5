-- The tasks of a lane: its route's, in order, for its opener and its taker, and none for others.
use Rattle.std.proofs.Common.{◌≡◌, ℕ, ◌+◌, ◌-◌, ◌<◌, ◌≤◌, Bool, true, false, cond, nat_eq, List, [], ◌∷◌, length, max, min, sym, refl, ap, ◌∙◌, inl, inr, ⊎_elim, arith, All, Option, Some, None, slice_get}
use Rattle.std.specs.List.{range_with_len}
use Rattle.std.specs.Option.{option_map_or}
use Rattle.std.proofs.lemmas.Bool.{cases_lt, cases_eq, cases_Bool, eq-eqb, ne_eqb, eqb-false, le-leb, and_from, cond-true, cond-false}
use Rattle.std.proofs.lemmas.List.Elements.{All-map}
use Rattle.std.proofs.lemmas.List.Sums.{get_or-le-sum_by, count_by-le-length}
use Rattle.std.proofs.lemmas.Option.{slice_get_within}
use Rattle.platform_file.specs.Ticks.{TimedView}
use Rattle.schedule_model.specs.declared.schedule.Series.TheVariants.{Tasking}
use Rattle.flow_routes.specs.declared.flow.Route.{Route}
use Rattle.step_core.specs.declared.wiring.Event.{Event}
use Rattle.step_core.specs.Wirings.{WiringView, opening, closing, taking, is_lane, program_of}
use Rattle.step_core.specs.Tasks.{tasks_on}
use Rattle.period_table.specs.declared.table.Table.{Table}
use Rattle.period_table.specs.Lanes.{LaneAt, lanes_of, lane_at}
use Rattle.period_table.specs.Tables.{longest}
use Rattle.actor_programs.specs.declared.actor.Actor.{Actor}
use Rattle.actor_programs.specs.declared.actor.Actor.TheVariants.{Sender, Consumer}
use Rattle.actor_programs.specs.Tasks.{batches_of, route_tasks, route_of, offset_at, end_at}
use Rattle.actor_programs.specs.Programs.{actors_of, run_periods, program_from, lane_of, wiring_of}
use Rattle.actor_programs.specs.Carried.{CanRun, opener_of, taker_of, IsActor, IsCarried, IsRoomy}
use Rattle.actor_programs.specs.Faults.{events_in}
use Rattle.actor_programs.proofs.Numbers.{tasks_past}
use Rattle.actor_programs.proofs.LaneNumbers.{length-lanes, inside, beyond, lane_list, capacity_is}
use Rattle.actor_programs.proofs.Runs.{Does, does_open, does_close, tasks-count}
use Rattle.actor_programs.proofs.Programs.{opens_over, takes_over, lane_tasks, opened_below, taken_below}
use Rattle.actor_programs.proofs.Acting.{entry, length-numbered, one_opens, one_takes, opener, taker}
use Rattle.actor_programs.proofs.Formed.{all_numbers}
use Rattle.actor_programs.proofs.Paced.{program_is, some_tasks}

-- a lane's hop is one of its route's
hop_inside : (routes : List Route) (k : ℕ) → k < length (lanes_of routes) → (lane_at (lanes_of routes) k).hop < longest routes
hop_inside [] k l = absurd (omega (arith, l))
hop_inside (route ∷ routes) k l = elim (cases_lt k (length route.links)) [
  | inl here ↦
      let hop : (lane_at (lanes_of (route ∷ routes)) k).hop ≡ k = ap (λ (x : LaneAt). x.hop) (inside route routes k here) in
      first k _ (length route.links) (longest routes) hop here
  | inr later ↦
      let hop : (lane_at (lanes_of (route ∷ routes)) k).hop ≡ (lane_at (lanes_of routes) (k - length route.links)).hop = ap (λ (x : LaneAt). x.hop) (beyond route routes k later) in
      second _ _ (length route.links) (longest routes) hop (hop_inside routes (k - length route.links) (omega (arith, l, later, length-lanes route routes)))
]
  where
    first : (k h n m : ℕ) → h ≡ k → k < n → h < max n m
    first k h n m e l = omega arith

    second : (h i n m : ℕ) → h ≡ i → i < m → h < max n m
    second h i n m e l = omega arith

module _ (t : TimedView) (table : Table) (chunks lane : ℕ) (can : CanRun t table chunks) (there : lane < length (lanes_of table.routes)) where
  abbrev tasks : List ℕ
  tasks = route_tasks table chunks (route_of table.routes lane)

  abbrev hop : ℕ
  hop = (lane_at (lanes_of table.routes) lane).hop

  abbrev w : WiringView
  w = wiring_of t table chunks

  -- all periods of a run have all batches of the lane
  whole : (h : ℕ) → h ≤ table.depth → lane_tasks t Tasking table can.fits chunks lane (run_periods table chunks - h) ≡ tasks
  whole h short = elim (cases_eq chunks 0) [
    | inl none ↦
        let zeroth : nat_eq chunks 0 ≡ true = eq-eqb chunks 0 none in
        let idle : run_periods table chunks ≡ 0 = cond-true (nat_eq chunks 0) 0 (batches_of table.tasks chunks + table.depth) zeroth in
        let e : run_periods table chunks - h ≡ batches_of table.tasks chunks =
        ended (run_periods table chunks) (batches_of table.tasks chunks) idle (cond-true (nat_eq chunks 0) 0 _ zeroth) in
        ap (lane_tasks t Tasking table can.fits chunks lane) e ∙ sym (lane_list table chunks lane)
    | inr more ↦
        let busy : run_periods table chunks ≡ batches_of table.tasks chunks + table.depth = cond-false (nat_eq chunks 0) 0 (batches_of table.tasks chunks + table.depth) (ne_eqb chunks 0 more) in
        let e : run_periods table chunks - h ≡ batches_of table.tasks chunks + (table.depth - h) = omega (arith, busy, short) in
        ap (lane_tasks t Tasking table can.fits chunks lane) e
        ∙ tasks_past table.tasks chunks (offset_at table.routes lane) (lane_at (lanes_of table.routes) lane).count (some_tasks t table chunks can.timed can.fits lane there) (table.depth - h)
        ∙ sym (lane_list table chunks lane)
  ]
    where
      ended : (p b : ℕ) → p ≡ 0 → b ≡ 0 → p - h ≡ b
      ended p b e f = omega (arith, e, f)

  hop_short : hop + 1 ≤ table.depth
  hop_short = omega (arith, hop_inside table.routes lane there, can.fits.depth)

  opened_all : (role : Event → Option ℕ) → Does role (λ run. run.lane) → (number : ℕ) (actor : Actor)
      → tasks_on role lane (program_from table chunks number actor) ≡ cond (opens_over table.routes lane actor) tasks []
  opened_all role does number actor =
      opened_below t Tasking table can.fits chunks lane role does number actor (run_periods table chunks)
      ∙ ap (λ xs. cond (opens_over table.routes lane actor) xs []) (whole hop (omega (arith, hop_short)))

  taken_all : (number : ℕ) (actor : Actor) → tasks_on taking lane (program_from table chunks number actor) ≡ cond (takes_over table.routes lane actor) tasks []
  taken_all number actor =
      taken_below t Tasking table can.fits chunks lane number actor (run_periods table chunks)
      ∙ ap (λ xs. cond (takes_over table.routes lane actor) xs []) (whole (hop + 1) hop_short)

  takes_it : takes_over table.routes lane (taker_of table.routes lane) ≡ true
  takes_it = of_end (nat_eq (lane_at (lanes_of table.routes) (lane + 1)).hop 0) refl
    where
      of_end : (b : Bool) → nat_eq (lane_at (lanes_of table.routes) (lane + 1)).hop 0 ≡ b
          → takes_over table.routes lane (cond b (Consumer (end_at table.routes lane)) (Sender (lane_at (lanes_of table.routes) (lane + 1)).link)) ≡ true
      of_end true last = and_from _ _ last (eq-eqb _ _ refl)
      of_end false on = and_from _ _ (le-leb 1 _ (some _ (eqb-false _ 0 on))) (eq-eqb _ _ refl)
        where
          some : (n : ℕ) → (n ≡ 0 → ⊥) → 1 ≤ n
          some n ne = omega (arith, ne)

  opens_it : opens_over table.routes lane (opener_of table.routes lane) ≡ true
  opens_it = eq-eqb (lane_at (lanes_of table.routes) lane).link (lane_at (lanes_of table.routes) lane).link refl

  -- what its actor does, and what others do
  module _ (role : Event → Option ℕ) (over : Actor → Bool) (who : Actor) (is_over : over who ≡ true) (alone : (x : Actor) → over x ≡ true → x ≡ who)
      (all : (number : ℕ) (actor : Actor) → tasks_on role lane (program_from table chunks number actor) ≡ cond (over actor) tasks []) where
    by_it : (a : ℕ) → IsActor t table a who → tasks_on role lane (program_of w a) ≡ tasks
    by_it a is = ap (tasks_on role lane) (program_is t table chunks a who is) ∙ all a who ∙ cond-true (over who) tasks [] is_over

    by_none : (a : ℕ) → (IsActor t table a who → ⊥) → tasks_on role lane (program_of w a) ≡ []
    by_none a other = ⊎_elim
        (λ (e : (x : Actor) × (slice_get (actors_of t table) a ≡ Some x) × (program_of w a ≡ program_from table chunks (0 + a) x)).
        ap (tasks_on role lane) e.2 ∙ all (0 + a) e.0 ∙ ⊎_elim
        (λ (passes : over e.0 ≡ true). absurd (other (e.1 ∙ ap Some (alone e.0 passes))))
        (λ (fails : over e.0 ≡ false). cond-false (over e.0) tasks [] fails)
        (cases_Bool (over e.0)))
        (λ (e : (slice_get (actors_of t table) a ≡ None) × (program_of w a ≡ [])). ap (tasks_on role lane) e.1)
        (entry (program_from table chunks) 0 (actors_of t table) a [])

  opens_alone : (x : Actor) → opens_over table.routes lane x ≡ true → x ≡ opener_of table.routes lane
  opens_alone x passes = one_opens t table lane x (opener_of table.routes lane) passes opens_it

  takes_alone : (x : Actor) → takes_over table.routes lane x ≡ true → x ≡ taker_of table.routes lane
  takes_alone x passes = one_takes t table lane x (taker_of table.routes lane) passes takes_it

  pub opener_there : (a : ℕ) × IsActor t table a (opener_of table.routes lane)
  opener_there = let o = opener t table can.timed can.fits lane there in (o.0, o.2 ∙ ap Some (opens_alone o.1 o.3))

  pub carried : IsCarried t table chunks lane tasks
  carried = record {
    opener = opener_there;
    taker = let o = taker t table can.timed can.fits lane there in (o.0, o.2 ∙ ap Some (takes_alone o.1 o.3));
    opened = by_it opening (opens_over table.routes lane) (opener_of table.routes lane) opens_it opens_alone (opened_all opening does_open);
    closed = by_it closing (opens_over table.routes lane) (opener_of table.routes lane) opens_it opens_alone (opened_all closing does_close);
    taken = by_it taking (takes_over table.routes lane) (taker_of table.routes lane) takes_it takes_alone taken_all;
    no_other_opens = by_none opening (opens_over table.routes lane) (opener_of table.routes lane) opens_it opens_alone (opened_all opening does_open);
    no_other_closes = by_none closing (opens_over table.routes lane) (opener_of table.routes lane) opens_it opens_alone (opened_all closing does_close);
    no_other_takes = by_none taking (takes_over table.routes lane) (taker_of table.routes lane) takes_it takes_alone taken_all;
  }

  -- the tasks of a route are no more than all events
  tasks_few : length tasks ≤ events_in t table chunks
  tasks_few =
      let o = opener_there in
      let program = program_of w o.0 in
      let same = by_it opening (opens_over table.routes lane) (opener_of table.routes lane) opens_it opens_alone (opened_all opening does_open) o.0 o.1 in
      elim (cases_lt o.0 (length w.programs)) [
        | inl inside ↦
            omega (
              arith,
              ap length same,
              tasks-count opening lane program,
              count_by-le-length (λ e. option_map_or (is_lane lane) (opening e) false) program,
              get_or-le-sum_by length w.programs o.0 [] inside,
            )
        | inr past ↦ absurd (omega (arith, past, slice_get_within (actors_of t table) o.0 _ o.1, many))
      ]
    where
      many : length w.programs ≡ length (actors_of t table)
      many = length-numbered (program_from table chunks) 0 (actors_of t table)

  pub roomy : events_in t table chunks ≤ 4000000 → IsRoomy (lane_of t table chunks lane)
  roomy few = (least _ _ (capacity_is table chunks lane), most _ _ _ _ (ap length (lane_list table chunks lane)) (capacity_is table chunks lane) tasks_few)
    where
      least : (c n : ℕ) → c ≡ max 1 n → 1 ≤ c
      least c n e = omega (arith, e)

      most : (c n m l : ℕ) → l ≡ m → c ≡ max 1 (min n m) → l ≤ events_in t table chunks → c ≤ 4000000
      most c n m l same e le = omega (arith, same, e, le, few)

pub all_roomy : (t : TimedView) (table : Table) (chunks : ℕ) → CanRun t table chunks → events_in t table chunks ≤ 4000000 → All IsRoomy (wiring_of t table chunks).lanes
all_roomy t table chunks can few =
    All-map IsRoomy (lane_of t table chunks) (range_with_len 0 (length (lanes_of table.routes)))
    (all_numbers (λ k. IsRoomy (lane_of t table chunks k)) 0 (length (lanes_of table.routes)) (λ k l. roomy t table chunks k can (omega (arith, l)) few))
