-- A history that has the events of the first periods has computed their tasks, but for those of the last routes' lengths.
use Rattle.std.proofs.Common.{◌≡◌, ℕ, zero, suc, ◌+◌, ◌-◌, ◌*◌, ◌<◌, ◌≤◌, Bool, true, false, cond, nat_eq, nat_lt, nat_le, List, [], ◌∷◌, ◌++◌, length, take, filter, min, sum_by, count_by, sym, refl, ap, ◌∙◌, inl, inr, arith, All, Option, Some, None, slice_get, slice_index_or, length-append}
use Rattle.std.specs.List.{flat_map, list_any, range_with_len}
use Rattle.std.specs.Option.{option_map_or}
use Rattle.std.proofs.lemmas.Bool.{cases_lt, cases_eq, eq-eqb, ne_eqb, cond-true, cond-false, lt-ltb, le-ltb}
use Rattle.std.proofs.lemmas.List.{take_at, take_all}
use Rattle.std.proofs.lemmas.List.FromFn.{get_or-range_with_len}
use Rattle.std.proofs.lemmas.List.Elements.{All-head, All-tail}
use Rattle.std.proofs.lemmas.List.Sums.{sum_by-cons}
use Rattle.std.proofs.lemmas.Option.{slice_get_within}
use Rattle.platform_file.specs.Ticks.{TimedView, IsTimed}
use Rattle.schedule_model.specs.declared.schedule.Series.TheVariants.{Tasking}
use Rattle.flow_routes.specs.declared.flow.Route.{Route}
use Rattle.step_core.specs.declared.wiring.Event.{Event}
use Rattle.step_core.specs.Wirings.{WiringView, program_of}
use Rattle.step_core.specs.Histories.{events_of, IsLegal}
use Rattle.step_core.proofs.Totals.{total, total-cong, total-le, total-part, total-take}
use Rattle.step_core.proofs.Counting.{count-by_actors, count-front}
use Rattle.step_core.proofs.Histories.{events-take}
use Rattle.period_table.specs.declared.table.Table.{Table}
use Rattle.period_table.specs.Lanes.{lanes_of}
use Rattle.period_table.specs.Tables.{Fits}
use Rattle.period_table.proofs.LaneLists.{within_longest}
use Rattle.period_table.proofs.FittingTables.{ends_exist}
use Rattle.actor_programs.specs.Tasks.{batches_of, tasks_of_batch, joined_below, tasks_below}
use Rattle.actor_programs.specs.Runs.{period_events, events_below}
use Rattle.actor_programs.specs.Programs.{lane_before, computes_of, runs_of, actors_of, run_periods, program_from, wiring_of, periods_of}
use Rattle.actor_programs.specs.declared.actor.Actor.TheVariants.{Sender, Consumer}
use Rattle.actor_programs.specs.Counted.{HasPeriods}
use Rattle.actor_programs.proofs.Joined.{sum-add, first_part, longer, number-below}
use Rattle.actor_programs.proofs.Numbers.{length-numbers, joined_same, joined_if, joined_later, batch-join, so_many, more_batches, past_last}
use Rattle.actor_programs.proofs.Runs.{that-count, that-joined, passed, computes, does_done, period_does, one_more}
use Rattle.actor_programs.proofs.Acting.{length-numbered, found, consumer_at, listed}
use Rattle.actor_programs.proofs.Paced.{program_is, period_is}
use Rattle.actor_programs.specs.declared.actor.Actor.{Actor}
use Rattle.step_core.specs.Tasks.{is_done, tasks_done}

-- a sum over the numbers below one is a sum over their list
total-sum : (n : ℕ) (f : ℕ → ℕ) → total n f ≡ sum_by f (range_with_len 0 n)
total-sum n f =
    total-cong n f (λ a. f (slice_index_or (range_with_len 0 n) a 0)) (λ a l. let z : 0 + a ≡ a = omega arith in ap f (sym (get_or-range_with_len 0 n a 0 l ∙ z)))
    ∙ total-take f (range_with_len 0 n) 0 n (omega (arith, length-numbers 0 n))
    ∙ ap (sum_by f) (take_all n (range_with_len 0 n) (omega (arith, length-numbers 0 n)))

total-add : (n : ℕ) (f g : ℕ → ℕ) → total n (λ a. f a + g a) ≡ total n f + total n g
total-add n f g =
    omega (arith, total-sum n (λ a. f a + g a), total-sum n f, total-sum n g, sum-add f g (range_with_len 0 n))

pub joined-length : {X : Type 0} (f g : ℕ → List X) (n : ℕ) → length (joined_below (λ p. f p ++ g p) n) ≡ length (joined_below f n) + length (joined_below g n)
joined-length f g zero = refl
joined-length f g (suc n) =
    omega (
      arith,
      joined-length f g n,
      length-append (joined_below (λ p. f p ++ g p) n) (f n ++ g n),
      length-append (f n) (g n),
      length-append (joined_below f n) (f n),
      length-append (joined_below g n) (g n),
    )

abbrev pub is_consumer : ℕ → Actor → Bool
is_consumer node (Sender link) = false
is_consumer node (Consumer other) = nat_eq node other

module _ (tasks chunks n : ℕ) where
  -- what is computed of a route in the first periods
  abbrev share : ℕ → Route → ℕ
  share offset route = so_many tasks chunks offset route.count (n - length route.links)

  -- by an actor
  abbrev share_at : ℕ → List Route → Actor → ℕ
  share_at offset [] x = 0
  share_at offset (route ∷ routes) x = cond (is_consumer route.end x) (share offset route) 0 + share_at (offset + route.count) routes x

  -- by all
  abbrev share_all : ℕ → List Route → ℕ
  share_all offset [] = 0
  share_all offset (route ∷ routes) = share offset route + share_all (offset + route.count) routes

  no_sender : (offset : ℕ) (routes : List Route) (link : ℕ) → share_at offset routes (Sender link) ≡ 0
  no_sender offset [] link = refl
  no_sender offset (route ∷ routes) link = let r = no_sender (offset + route.count) routes link in omega (arith, r)

  -- the tasks that a consumer computes in a period
  abbrev pub node_tasks : ℕ → ℕ → List Route → ℕ → List ℕ
  node_tasks node offset [] p = []
  node_tasks node offset (route ∷ routes) p =
      cond (nat_eq route.end node) (cond (nat_le (length route.links) p) (tasks_of_batch tasks chunks (p - length route.links) offset route.count) []) []
      ++ node_tasks node (offset + route.count) routes p

  computed_in : (node lanes offset : ℕ) (routes : List Route) (p : ℕ)
      → flat_map (passed tasks chunks computes p) (computes_of node lanes offset routes) ≡ node_tasks node offset routes p
  computed_in node lanes offset [] p = refl
  computed_in node lanes offset (route ∷ routes) p =
      one_more (passed tasks chunks computes p) (nat_eq route.end node)
      (record { take = lane_before (length route.links) (lanes + length route.links); lane = None; hop = length route.links; offset = offset; count = route.count })
      (computes_of node (lanes + length route.links) (offset + route.count) routes)
      ∙ rw (computed_in node (lanes + length route.links) (offset + route.count) routes p) refl

  node_share : (node offset : ℕ) (routes : List Route) → length (joined_below (node_tasks node offset routes) n) ≡ share_at offset routes (Consumer node)
  node_share node offset [] = ap length (none n)
    where
      none : (n : ℕ) → joined_below {X = ℕ} (node_tasks node offset []) n ≡ []
      none zero = refl
      none (suc n) = ap (λ xs. xs ++ []) (none n)
  node_share node offset (route ∷ routes) =
      joined-length (λ p. cond (nat_eq route.end node) (cond (nat_le (length route.links) p) (tasks_of_batch tasks chunks (p - length route.links) offset route.count) []) [])
      (node_tasks node (offset + route.count) routes) n
      ∙ both _ _ _ _
      (ap length (joined_if ℕ (nat_eq route.end node) (λ p. cond (nat_le (length route.links) p) (tasks_of_batch tasks chunks (p - length route.links) offset route.count) []) n
      ∙ ap (λ xs. cond (nat_eq route.end node) xs []) (joined_later (length route.links) (λ b. tasks_of_batch tasks chunks b offset route.count) n))
      ∙ length_if (nat_eq route.end node) (tasks_below tasks chunks offset route.count (n - length route.links)))
      (node_share node (offset + route.count) routes)
    where
      both : (a b c d : ℕ) → a ≡ b → c ≡ d → a + c ≡ b + d
      both a b c d e f = omega arith

      length_if : (b : Bool) (xs : List ℕ) → length (cond b xs []) ≡ cond b (length xs) 0
      length_if true xs = refl
      length_if false xs = refl

  -- the tasks that a consumer computes in the first periods
  pub consumed : (number node lanes offset : ℕ) (routes : List Route)
      → tasks_done (events_below tasks chunks number (computes_of node lanes offset routes) n) ≡ joined_below (node_tasks node offset routes) n
  consumed number node lanes offset routes =
      let f = period_events tasks chunks number (computes_of node lanes offset routes) in
      that-joined is_done f n
      ∙ joined_same (λ p. tasks_done (f p)) (node_tasks node offset routes)
      (λ p. period_does is_done computes does_done tasks chunks number p (computes_of node lanes offset routes) ∙ computed_in node lanes offset routes p) n

  -- an actor has computed its share
  actor_share : (table : Table) → table.tasks ≡ tasks → (number : ℕ) (actor : Actor)
      → share_at 0 table.routes actor ≤ count_by is_done (events_below tasks chunks number (runs_of table actor) n)
  actor_share table e number (Sender link) = let z = no_sender 0 table.routes link in omega (arith, z)
  actor_share table e number (Consumer node) =
      let f = period_events tasks chunks number (computes_of node 0 0 table.routes) in
      let moved = consumed number node 0 0 table.routes in
      omega (arith, that-count is_done (joined_below f n), ap length moved, node_share node 0 table.routes)

-- ---- all shares together

-- of numbers in a row some are below a bound
pub some_below : (chunks first n : ℕ) → length (filter (λ t. nat_lt t chunks) (range_with_len first n)) ≡ min n (chunks - first)
some_below chunks first zero = none (chunks - first)
  where
    none : (m : ℕ) → 0 ≡ min 0 m
    none m = omega arith
some_below chunks first (suc n) = elim (cases_lt first chunks) [
  | inl less ↦
      let rest = some_below chunks (first + 1) n in
      let e : length (filter (λ t. nat_lt t chunks) (range_with_len first (suc n))) ≡ suc (length (filter (λ t. nat_lt t chunks) (range_with_len (first + 1) n))) =
      ap (λ b. length (cond b (first ∷ filter (λ t. nat_lt t chunks) (range_with_len (first + 1) n)) (filter (λ t. nat_lt t chunks) (range_with_len (first + 1) n)))) (lt-ltb first chunks less) in
      omega (arith, e, rest)
  | inr past ↦
      let rest = some_below chunks (first + 1) n in
      let e : length (filter (λ t. nat_lt t chunks) (range_with_len first (suc n))) ≡ length (filter (λ t. nat_lt t chunks) (range_with_len (first + 1) n)) =
      ap (λ b. length (cond b (first ∷ filter (λ t. nat_lt t chunks) (range_with_len (first + 1) n)) (filter (λ t. nat_lt t chunks) (range_with_len (first + 1) n)))) (le-ltb first chunks past) in
      omega (arith, e, rest)
]

-- whole batches
whole : (tasks chunks n : ℕ) → so_many tasks chunks 0 tasks n ≡ min (n * tasks) chunks
whole tasks chunks zero = none chunks
  where
    none : (m : ℕ) → 0 ≡ min (0 * tasks) m
    none m = omega arith
whole tasks chunks (suc n) =
    let more : suc n * tasks ≡ n * tasks + tasks = omega arith in
    let here = some_below chunks (n * tasks + 0) tasks in
    omega (arith, whole tasks chunks n, here, more, length-append (tasks_below tasks chunks 0 tasks n) (tasks_of_batch tasks chunks n 0 tasks))

many_join : (tasks chunks offset a b n : ℕ) → so_many tasks chunks offset (a + b) n ≡ so_many tasks chunks offset a n + so_many tasks chunks (offset + a) b n
many_join tasks chunks offset a b zero = refl
many_join tasks chunks offset a b (suc n) =
    omega (
      arith,
      many_join tasks chunks offset a b n,
      length-append (tasks_below tasks chunks offset (a + b) n) (tasks_of_batch tasks chunks n offset (a + b)),
      length-append (tasks_below tasks chunks offset a n) (tasks_of_batch tasks chunks n offset a),
      length-append (tasks_below tasks chunks (offset + a) b n) (tasks_of_batch tasks chunks n (offset + a) b),
      ap length (batch-join tasks chunks n offset a b),
      length-append (tasks_of_batch tasks chunks n offset a) (tasks_of_batch tasks chunks n (offset + a) b),
    )

nothing : (tasks chunks offset n : ℕ) → so_many tasks chunks offset 0 n ≡ 0
nothing tasks chunks offset zero = refl
nothing tasks chunks offset (suc n) = omega (arith, nothing tasks chunks offset n, length-append (tasks_below tasks chunks offset 0 n) (tasks_of_batch tasks chunks n offset 0))

module _ (tasks chunks n depth : ℕ) where
  all_shares : (offset : ℕ) (routes : List Route) → All (λ route. length route.links ≤ depth) routes
      → so_many tasks chunks offset (sum_by (λ route. route.count) routes) (n - depth) ≤ share_all tasks chunks n offset routes
  all_shares offset [] each = omega (arith, nothing tasks chunks offset (n - depth))
  all_shares offset (route ∷ routes) each =
      let short = All-head (λ (r : Route). length r.links ≤ depth) route routes each in
      let rest = all_shares (offset + route.count) routes (All-tail (λ (r : Route). length r.links ≤ depth) route routes each) in
      omega (
        arith,
        rest,
        many_join tasks chunks offset route.count (sum_by (λ r. r.count) routes) (n - depth),
        more_batches tasks chunks offset route.count (n - depth) (n - length route.links) (omega (arith, short)),
        ap (λ x. so_many tasks chunks offset x (n - depth)) (sum_by-cons (λ (r : Route). r.count) route routes),
      )

  -- the shares of all actors, where each route has a consumer
  abbrev of_actor : ℕ → List Route → Option Actor → ℕ
  of_actor offset routes o = option_map_or (share_at tasks chunks n offset routes) o 0

  spread : (actors : List Actor) (size offset : ℕ) (routes : List Route) → All (λ route. (a : ℕ) × (a < size) × (slice_get actors a ≡ Some (Consumer route.end))) routes
      → share_all tasks chunks n offset routes ≤ total size (λ a. of_actor offset routes (slice_get actors a))
  spread actors size offset [] each = omega arith
  spread actors size offset (route ∷ routes) each =
      let first = λ (a : ℕ). option_map_or (λ x. cond (is_consumer route.end x) (share tasks chunks n offset route) 0) (slice_get actors a) 0 in
      let here = All-head (λ (r : Route). (a : ℕ) × (a < size) × (slice_get actors a ≡ Some (Consumer r.end))) route routes each in
      let rest = spread actors size (offset + route.count) routes (All-tail (λ (r : Route). (a : ℕ) × (a < size) × (slice_get actors a ≡ Some (Consumer r.end))) route routes each) in
      let mine : first here.0 ≡ share tasks chunks n offset route =
      ap (λ o. option_map_or (λ x. cond (is_consumer route.end x) (share tasks chunks n offset route) 0) o 0) here.2
      ∙ cond-true (nat_eq route.end route.end) (share tasks chunks n offset route) 0 (eq-eqb route.end route.end refl) in
      let both = total-add size first (λ a. of_actor (offset + route.count) routes (slice_get actors a)) in
      let same = total-cong size (λ a. of_actor offset (route ∷ routes) (slice_get actors a)) (λ a. first a + of_actor (offset + route.count) routes (slice_get actors a))
      (λ a l. parts (slice_get actors a)) in
      omega (arith, rest, mine, both, same, total-part size here.0 first here.1)
    where
      parts : (o : Option Actor) → of_actor offset (route ∷ routes) o ≡ option_map_or (λ x. cond (is_consumer route.end x) (share tasks chunks n offset route) 0) o 0 + of_actor (offset + route.count) routes o
      parts None = refl
      parts (Some x) = refl

-- ---- the law

module _ (t : TimedView) (table : Table) (chunks : ℕ) (timed : IsTimed t) (fits : Fits t Tasking table) where
  abbrev v : WiringView
  v = wiring_of t table chunks

  consumers : All (λ route. (a : ℕ) × (a < length v.programs) × (slice_get (actors_of t table) a ≡ Some (Consumer route.end))) table.routes
  consumers = λ i d l.
      let node = (slice_index_or table.routes i d).end in
      let exists : node < length t.platform.nodes = ends_exist t timed table fits i d l in
      let place = found 0 (length t.platform.nodes) (λ node. list_any (λ route. nat_eq route.end node) table.routes) node (omega arith) (omega (arith, exists))
      (listed (λ (route : Route). nat_eq route.end node) table.routes i d l (eq-eqb node node refl)) in
      let there = consumer_at (filter (λ link. list_any (λ lane. nat_eq lane.link link) (lanes_of table.routes)) (range_with_len 0 (length t.platform.links)))
      (filter (λ node. list_any (λ route. nat_eq route.end node) table.routes) (range_with_len 0 (length t.platform.nodes))) place.0 node place.1 in
      (there.0, omega (arith, slice_get_within (actors_of t table) there.0 (Consumer node) there.1, length-numbered (program_from table chunks) 0 (actors_of t table)), there.1)

  short : All (λ route. length route.links ≤ table.depth) table.routes
  short = λ i d l. omega (arith, within_longest table.routes i d l, fits.depth)

  module _ (h : List Event) (legal : IsLegal v h) (n : ℕ) (inside : n ≤ run_periods table chunks) (has : HasPeriods v (periods_of t table chunks) n h) where
    -- each actor has made the events of its first periods
    made : (a : ℕ) (actor : Actor) → slice_get (actors_of t table) a ≡ Some actor
        → count_by is_done (events_below table.tasks chunks a (runs_of table actor) n) ≤ count_by is_done (events_of a h)
    made a actor there =
        let f = period_events table.tasks chunks a (runs_of table actor) in
        let same = program_is t table chunks a actor there in
        let r = first_part f n (run_periods table chunks) inside in
        let enough : length (joined_below f n) ≤ length (events_of a h) = elim (cases_lt (length (events_of a h)) (length (joined_below f n))) [
          | inl less ↦
              let le = longer f n (run_periods table chunks) inside in
              let below = number-below f n (run_periods table chunks) (length (events_of a h)) inside less in
              absurd (omega (arith, has a (length (events_of a h)) (omega (arith, less, le, ap length same)) (omega (arith, below, period_is t table chunks a (length (events_of a h)) actor there))))
          | inr enough ↦ enough
        ] in
        let front : take (length (joined_below f n)) (program_of v a) ≡ joined_below f n =
        ap (take (length (joined_below f n))) (same ∙ r.1) ∙ take_at (joined_below f n) r.0 (length (joined_below f n)) refl in
        omega (
          arith,
          ap (count_by is_done) front,
          ap (count_by is_done) (events-take v h a legal),
          count-front is_done (program_of v a) (length (joined_below f n)) (length (events_of a h)) enough,
        )

    each_share : (a : ℕ) → of_actor table.tasks chunks n table.depth 0 table.routes (slice_get (actors_of t table) a) ≤ count_by is_done (events_of a h)
    each_share a = of_entry (slice_get (actors_of t table) a) refl
      where
        of_entry : (o : Option Actor) → slice_get (actors_of t table) a ≡ o → of_actor table.tasks chunks n table.depth 0 table.routes o ≤ count_by is_done (events_of a h)
        of_entry None e = omega arith
        of_entry (Some actor) e = omega (arith, made a actor e, actor_share table.tasks chunks n table refl a actor)

    counted : min ((n - table.depth) * table.tasks) chunks ≤ count_by is_done h
    counted =
        let sum = count-by_actors (length v.programs) is_done h legal.actors in
        let all = all_shares table.tasks chunks n table.depth 0 table.routes short in
        let tasks : so_many table.tasks chunks 0 (sum_by (λ route. route.count) table.routes) (n - table.depth) ≡ so_many table.tasks chunks 0 table.tasks (n - table.depth) =
        ap (λ x. so_many table.tasks chunks 0 x (n - table.depth)) (sym fits.tasks) in
        omega (
          arith,
          sum,
          all,
          tasks,
          whole table.tasks chunks (n - table.depth),
          spread table.tasks chunks n table.depth (actors_of t table) (length v.programs) 0 table.routes consumers,
          total-le (length v.programs) (λ a. of_actor table.tasks chunks n table.depth 0 table.routes (slice_get (actors_of t table) a)) (λ a. count_by is_done (events_of a h)) (λ a l. each_share a),
        )

pub count_law : (t : TimedView) (table : Table) (chunks n : ℕ) (h : List Event) → IsTimed t → Fits t Tasking table → (table.tasks ≡ 0 → chunks ≡ 0)
    → IsLegal (wiring_of t table chunks) h → HasPeriods (wiring_of t table chunks) (periods_of t table chunks) n h
    → min ((n - table.depth) * table.tasks) chunks ≤ count_by is_done h
count_law t table chunks n h timed fits some legal has = elim (cases_eq chunks 0) [
  | inl nothing ↦ least _ _ nothing
  | inr more ↦ elim (cases_lt (run_periods table chunks) n) [
    | inl past ↦
        let is : nat_eq chunks 0 ≡ false = ne_eqb chunks 0 more in
        let periods : run_periods table chunks ≡ batches_of table.tasks chunks + table.depth = cond-false (nat_eq chunks 0) 0 (batches_of table.tasks chunks + table.depth) is in
        let e : run_periods table chunks - table.depth ≡ batches_of table.tasks chunks = omega (arith, periods) in
        let all = past_last table.tasks chunks 0 0 (positive (λ z. more (some z))) (batches_of table.tasks chunks) (omega arith) in
        let whole_run = counted t table chunks timed fits h legal (run_periods table chunks) (omega arith) (λ a i l below. has a i l (omega (arith, below, past))) in
        let same : (run_periods table chunks - table.depth) * table.tasks ≡ batches_of table.tasks chunks * table.tasks = ap (λ x. x * table.tasks) e in
        enough _ _ _ _ whole_run same all
    | inr inside ↦ counted t table chunks timed fits h legal n inside has
  ]
]
  where
    least : (x c : ℕ) → c ≡ 0 → min x c ≤ count_by is_done h
    least x c e = omega (arith, e)

    positive : (table.tasks ≡ 0 → ⊥) → 1 ≤ table.tasks
    positive ne = omega (arith, ne)

    enough : (x y z d : ℕ) → min x chunks ≤ d → x ≡ y → chunks ≤ y → min z chunks ≤ d
    enough x y z d l e m = omega arith
