-- What all consumers compute together is each chunk's task, once.
use Rattle.std.proofs.Common.{◌≡◌, ℕ, zero, suc, ◌+◌, ◌-◌, ◌*◌, ◌<◌, ◌≤◌, ◌==◌, Bool, true, false, cond, nat_eq, nat_lt, nat_le, List, [], ◌∷◌, ◌++◌, length, map, filter, sum_by, count_by, sym, refl, ap, ◌∙◌, inl, inr, arith, All}
use Rattle.std.specs.List.{flat_map, list_any, range_with_len}
use Rattle.std.proofs.lemmas.Bool.{cases_eq, cases_Bool, eq-eqb, ne_eqb, lt-ltb, cond-true, cond-false}
use Rattle.std.proofs.lemmas.Bool.Decides.{nat_tests}
use Rattle.std.proofs.lemmas.List.{append-nil}
use Rattle.std.proofs.lemmas.List.Concat.{flat_map-append}
use Rattle.std.proofs.lemmas.List.Elements.{All-nil, All-cons, All-head, All-tail, filter-append}
use Rattle.std.proofs.lemmas.List.Sums.{sum_by-cons, sum_by-append}
use Rattle.platform_file.specs.Ticks.{TimedView, IsTimed}
use Rattle.schedule_model.specs.declared.schedule.Series.TheVariants.{Tasking}
use Rattle.flow_routes.specs.declared.flow.Route.{Route}
use Rattle.step_core.specs.Tasks.{is_done, tasks_done}
use Rattle.period_table.specs.declared.table.Table.{Table}
use Rattle.period_table.specs.declared.table.Slot.{Slot}
use Rattle.period_table.specs.declared.table.Piece.{Piece}
use Rattle.period_table.specs.Lanes.{lanes_of}
use Rattle.period_table.specs.Tables.{Fits}
use Rattle.period_table.proofs.LaneLists.{within_longest}
use Rattle.period_table.proofs.FittingTables.{ends_exist}
use Rattle.actor_programs.specs.declared.actor.Actor.{Actor}
use Rattle.actor_programs.specs.declared.actor.Actor.TheVariants.{Sender, Consumer}
use Rattle.actor_programs.specs.Tasks.{batches_of, tasks_of_batch, joined_below, tasks_below, all_tasks}
use Rattle.actor_programs.specs.Runs.{period_events, events_below}
use Rattle.actor_programs.specs.Programs.{run_of, is_over, sends_of, computes_of, runs_of, actors_of, run_periods, program_from, each_numbered, wiring_of}
use Rattle.actor_programs.specs.Carried.{CanRun, computed_by, ComputesAll}
use Rattle.actor_programs.proofs.Joined.{one_if, count-cons, sum-add}
use Rattle.actor_programs.proofs.Numbers.{joined_same, joined_nothing, joined_if, joined_later, numbers-join, length-numbers, batch-join, past_last, none_below, tasks_past}
use Rattle.actor_programs.proofs.Runs.{that-joined, passed, computes, does_done, period_does}
use Rattle.actor_programs.proofs.Acting.{listed}
use Rattle.actor_programs.proofs.Counted.{node_tasks, consumed}

-- ---- counts

count-append : {X : Type 0} (p : X → Bool) (xs ys : List X) → count_by p (xs ++ ys) ≡ count_by p xs + count_by p ys
count-append p xs ys = sum_by-append (λ x. cond (p x) 1 0) xs ys

joined-count : {X : Type 0} (p : X → Bool) (f g : ℕ → List X) (n : ℕ)
    → count_by p (joined_below (λ q. f q ++ g q) n) ≡ count_by p (joined_below f n) + count_by p (joined_below g n)
joined-count p f g zero = refl
joined-count p f g (suc n) =
    omega (
      arith,
      joined-count p f g n,
      count-append p (joined_below (λ q. f q ++ g q) n) (f n ++ g n),
      count-append p (f n) (g n),
      count-append p (joined_below f n) (f n),
      count-append p (joined_below g n) (g n),
    )

both_sums : (a b c d : ℕ) → a ≡ b → c ≡ d → a + c ≡ b + d
both_sums a b c d e f = omega arith

sum-nothing : (X : Type 0) (xs : List X) → sum_by (λ x. 0) xs ≡ 0
sum-nothing X [] = refl
sum-nothing X (x ∷ xs) = omega (arith, sum-nothing X xs, sum_by-cons (λ (y : X). 0) x xs)

-- of numbers in a row, those that pass, one is a given one
before_all : (q : ℕ → Bool) (e v first n : ℕ) → e < first → sum_by (λ x. cond (nat_eq e x) v 0) (filter q (range_with_len first n)) ≡ 0
before_all q e v first zero less = refl
before_all q e v first (suc n) less = elim (cases_Bool (q first)) [
  | inl kept ↦
      let no : cond (nat_eq e first) v 0 ≡ 0 = cond-false (nat_eq e first) v 0 (ne_eqb e first (λ same. omega (arith, same, less))) in
      ap (λ b. sum_by (λ x. cond (nat_eq e x) v 0) (cond b (first ∷ filter q (range_with_len (first + 1) n)) (filter q (range_with_len (first + 1) n)))) kept
      ∙ sum_by-cons (λ x. cond (nat_eq e x) v 0) first (filter q (range_with_len (first + 1) n))
      ∙ both_sums _ 0 _ 0 no (before_all q e v (first + 1) n (omega (arith, less)))
  | inr left ↦
      ap (λ b. sum_by (λ x. cond (nat_eq e x) v 0) (cond b (first ∷ filter q (range_with_len (first + 1) n)) (filter q (range_with_len (first + 1) n)))) left
      ∙ before_all q e v (first + 1) n (omega (arith, less))
]

pub one_of_all : (q : ℕ → Bool) (e v first n : ℕ) → first ≤ e → e < first + n → q e ≡ true → sum_by (λ x. cond (nat_eq e x) v 0) (filter q (range_with_len first n)) ≡ v
one_of_all q e v first zero le less passes = absurd (omega (arith, le, less))
one_of_all q e v first (suc n) le less passes = elim (cases_eq e first) [
  | inl same ↦
      let kept : q first ≡ true = ap q (sym same) ∙ passes in
      let yes : cond (nat_eq e first) v 0 ≡ v = cond-true (nat_eq e first) v 0 (eq-eqb e first same) in
      ap (λ b. sum_by (λ x. cond (nat_eq e x) v 0) (cond b (first ∷ filter q (range_with_len (first + 1) n)) (filter q (range_with_len (first + 1) n)))) kept
      ∙ sum_by-cons (λ x. cond (nat_eq e x) v 0) first (filter q (range_with_len (first + 1) n))
      ∙ alone _ v _ yes (before_all q e v (first + 1) n (omega (arith, same)))
  | inr other ↦
      let no : cond (nat_eq e first) v 0 ≡ 0 = cond-false (nat_eq e first) v 0 (ne_eqb e first other) in
      let rest = one_of_all q e v (first + 1) n (omega (arith, le, other)) (omega (arith, less)) passes in
      elim (cases_Bool (q first)) [
        | inl kept ↦
            ap (λ b. sum_by (λ x. cond (nat_eq e x) v 0) (cond b (first ∷ filter q (range_with_len (first + 1) n)) (filter q (range_with_len (first + 1) n)))) kept
            ∙ sum_by-cons (λ x. cond (nat_eq e x) v 0) first (filter q (range_with_len (first + 1) n))
            ∙ skip _ _ v no rest
        | inr left ↦
            ap (λ b. sum_by (λ x. cond (nat_eq e x) v 0) (cond b (first ∷ filter q (range_with_len (first + 1) n)) (filter q (range_with_len (first + 1) n)))) left ∙ rest
      ]
]
  where
    alone : (a v b : ℕ) → a ≡ v → b ≡ 0 → a + b ≡ v
    alone a v b f g = omega (arith, f, g)

    skip : (a b v : ℕ) → a ≡ 0 → b ≡ v → a + b ≡ v
    skip a b v f g = omega (arith, f, g)

-- ---- the tasks of all routes are those of whole batches, and these are the numbers below chunks

all_kept : (chunks first n : ℕ) → first + n ≤ chunks → filter (λ t. nat_lt t chunks) (range_with_len first n) ≡ range_with_len first n
all_kept chunks first zero le = refl
all_kept chunks first (suc n) le =
    ap (λ b. cond b (first ∷ filter (λ t. nat_lt t chunks) (range_with_len (first + 1) n)) (filter (λ t. nat_lt t chunks) (range_with_len (first + 1) n))) (lt-ltb first chunks (omega (arith, le)))
    ∙ ap (λ xs. first ∷ xs) (all_kept chunks (first + 1) n (omega (arith, le)))

module _ (tasks chunks : ℕ) where
  whole_list : (n : ℕ) → tasks_below tasks chunks 0 tasks n ≡ filter (λ t. nat_lt t chunks) (range_with_len 0 (n * tasks))
  whole_list zero = ap (λ m. filter (λ t. nat_lt t chunks) (range_with_len 0 m)) (none tasks)
    where
      none : (m : ℕ) → 0 ≡ 0 * m
      none m = omega arith
  whole_list (suc n) =
      let more : suc n * tasks ≡ n * tasks + tasks = omega arith in
      let start : n * tasks + 0 ≡ 0 + n * tasks = omega arith in
      rw (whole_list n, start)
      (sym (ap (λ m. filter (λ t. nat_lt t chunks) (range_with_len 0 m)) more
      ∙ ap (filter (λ t. nat_lt t chunks)) (numbers-join 0 (n * tasks) tasks)
      ∙ filter-append (λ t. nat_lt t chunks) (range_with_len 0 (n * tasks)) (range_with_len (0 + n * tasks) tasks)))

  first_ones : (m : ℕ) → chunks ≤ m → filter (λ t. nat_lt t chunks) (range_with_len 0 m) ≡ range_with_len 0 chunks
  first_ones m le =
      let e : m ≡ chunks + (m - chunks) = omega arith in
      ap (λ n. filter (λ t. nat_lt t chunks) (range_with_len 0 n)) e
      ∙ ap (filter (λ t. nat_lt t chunks)) (numbers-join 0 chunks (m - chunks))
      ∙ filter-append (λ t. nat_lt t chunks) (range_with_len 0 chunks) (range_with_len (0 + chunks) (m - chunks))
      ∙ ap (λ xs. xs ++ filter (λ t. nat_lt t chunks) (range_with_len (0 + chunks) (m - chunks))) (all_kept chunks 0 chunks (omega arith))
      ∙ ap (λ xs. range_with_len 0 chunks ++ xs) (none_below chunks (0 + chunks) (m - chunks) (omega arith))
      ∙ append-nil (range_with_len 0 chunks)

  pub whole_batches : 1 ≤ tasks → all_tasks tasks chunks 0 tasks ≡ range_with_len 0 chunks
  whole_batches some = whole_list (batches_of tasks chunks) ∙ first_ones (batches_of tasks chunks * tasks) (past_last tasks chunks 0 0 some (batches_of tasks chunks) (omega arith))

  module _ (p : ℕ → Bool) where
    weight-join : (offset a b n : ℕ) → count_by p (tasks_below tasks chunks offset (a + b) n) ≡ count_by p (tasks_below tasks chunks offset a n) + count_by p (tasks_below tasks chunks (offset + a) b n)
    weight-join offset a b zero = refl
    weight-join offset a b (suc n) =
        omega (
          arith,
          weight-join offset a b n,
          count-append p (tasks_below tasks chunks offset (a + b) n) (tasks_of_batch tasks chunks n offset (a + b)),
          count-append p (tasks_below tasks chunks offset a n) (tasks_of_batch tasks chunks n offset a),
          count-append p (tasks_below tasks chunks (offset + a) b n) (tasks_of_batch tasks chunks n (offset + a) b),
          ap (count_by p) (batch-join tasks chunks n offset a b),
          count-append p (tasks_of_batch tasks chunks n offset a) (tasks_of_batch tasks chunks n (offset + a) b),
        )

    weight-none : (offset n : ℕ) → count_by p (tasks_below tasks chunks offset 0 n) ≡ 0
    weight-none offset zero = refl
    weight-none offset (suc n) = omega (arith, weight-none offset n, count-append p (tasks_below tasks chunks offset 0 n) (tasks_of_batch tasks chunks n offset 0))

    -- of all routes
    abbrev total : ℕ → List Route → ℕ
    total offset [] = 0
    total offset (route ∷ routes) = count_by p (all_tasks tasks chunks offset route.count) + total (offset + route.count) routes

    total_is : (offset : ℕ) (routes : List Route) → total offset routes ≡ count_by p (all_tasks tasks chunks offset (sum_by (λ route. route.count) routes))
    total_is offset [] = sym (weight-none offset (batches_of tasks chunks))
    total_is offset (route ∷ routes) =
        omega (
          arith,
          total_is (offset + route.count) routes,
          weight-join offset route.count (sum_by (λ r. r.count) routes) (batches_of tasks chunks),
          ap (λ x. count_by p (all_tasks tasks chunks offset x)) (sum_by-cons (λ (r : Route). r.count) route routes),
        )

    -- of the routes that end at a node
    abbrev share : ℕ → ℕ → List Route → ℕ
    share node offset [] = 0
    share node offset (route ∷ routes) = cond (nat_eq route.end node) (count_by p (all_tasks tasks chunks offset route.count)) 0 + share node (offset + route.count) routes

    -- the shares of some nodes among which each end is once
    spread : (nodes : List ℕ) (offset : ℕ) (routes : List Route) → All (λ route. (v : ℕ) → sum_by (λ node. cond (nat_eq route.end node) v 0) nodes ≡ v) routes
        → sum_by (λ node. share node offset routes) nodes ≡ total offset routes
    spread nodes offset [] each = sum-nothing ℕ nodes
    spread nodes offset (route ∷ routes) each =
        let v = count_by p (all_tasks tasks chunks offset route.count) in
        sum-add (λ node. cond (nat_eq route.end node) v 0) (λ node. share node (offset + route.count) routes) nodes
        ∙ both_sums _ _ _ _ (All-head (λ (r : Route). (v : ℕ) → sum_by (λ node. cond (nat_eq r.end node) v 0) nodes ≡ v) route routes each v)
        (spread nodes (offset + route.count) routes (All-tail (λ (r : Route). (v : ℕ) → sum_by (λ node. cond (nat_eq r.end node) v 0) nodes ≡ v) route routes each))

    module _ (depth : ℕ) (some : 1 ≤ tasks) where
      abbrev periods : ℕ
      periods = batches_of tasks chunks + depth

      count_if : (b : Bool) (xs : List ℕ) → count_by p (cond b xs []) ≡ cond b (count_by p xs) 0
      count_if true xs = refl
      count_if false xs = refl

      one_share : (node offset : ℕ) (route : Route) → length route.links ≤ depth
          → count_by p (joined_below (λ q. cond (nat_eq route.end node) (cond (nat_le (length route.links) q) (tasks_of_batch tasks chunks (q - length route.links) offset route.count) []) []) periods)
          ≡ cond (nat_eq route.end node) (count_by p (all_tasks tasks chunks offset route.count)) 0
      one_share node offset route short =
          let e : periods - length route.links ≡ batches_of tasks chunks + (depth - length route.links) = omega (arith, short) in
          ap (count_by p)
          (joined_if ℕ (nat_eq route.end node) (λ q. cond (nat_le (length route.links) q) (tasks_of_batch tasks chunks (q - length route.links) offset route.count) []) periods
          ∙ ap (λ xs. cond (nat_eq route.end node) xs [])
          (joined_later (length route.links) (λ b. tasks_of_batch tasks chunks b offset route.count) periods
          ∙ ap (tasks_below tasks chunks offset route.count) e
          ∙ tasks_past tasks chunks offset route.count some (depth - length route.links)))
          ∙ count_if (nat_eq route.end node) (all_tasks tasks chunks offset route.count)

      node_share : (node offset : ℕ) (routes : List Route) → All (λ route. length route.links ≤ depth) routes
          → count_by p (joined_below (node_tasks tasks chunks periods node offset routes) periods) ≡ share node offset routes
      node_share node offset [] each = ap (count_by p) (joined_nothing ℕ periods)
      node_share node offset (route ∷ routes) each =
          joined-count p (λ q. cond (nat_eq route.end node) (cond (nat_le (length route.links) q) (tasks_of_batch tasks chunks (q - length route.links) offset route.count) []) [])
          (node_tasks tasks chunks periods node (offset + route.count) routes) periods
          ∙ both_sums _ _ _ _ (one_share node offset route (All-head (λ (r : Route). length r.links ≤ depth) route routes each))
          (node_share node (offset + route.count) routes (All-tail (λ (r : Route). length r.links ≤ depth) route routes each))

-- ---- what each actor computes

-- a sender computes nothing
no_piece : (tasks chunks q : ℕ) (routes : List Route) (before : List Slot) (pieces : List Piece) → flat_map (passed tasks chunks computes q) (map (run_of routes before) pieces) ≡ []
no_piece tasks chunks q routes before [] = refl
no_piece tasks chunks q routes before (piece ∷ pieces) = no_piece tasks chunks q routes before pieces

no_sends : (tasks chunks q : ℕ) (routes : List Route) (link : ℕ) (before slots : List Slot) → flat_map (passed tasks chunks computes q) (sends_of routes link before slots) ≡ []
no_sends tasks chunks q routes link before [] = refl
no_sends tasks chunks q routes link before (slot ∷ slots) =
    flat_map-append (passed tasks chunks computes q) (map (run_of routes before) (filter (is_over routes link) slot.pieces)) (sends_of routes link (slot ∷ before) slots)
    ∙ rw (no_piece tasks chunks q routes before (filter (is_over routes link) slot.pieces), no_sends tasks chunks q routes link (slot ∷ before) slots) refl

sender_idle : (tasks chunks number : ℕ) (routes : List Route) (link : ℕ) (slots : List Slot) (n : ℕ) → tasks_done (events_below tasks chunks number (sends_of routes link [] slots) n) ≡ []
sender_idle tasks chunks number routes link slots n =
    that-joined is_done (period_events tasks chunks number (sends_of routes link [] slots)) n
    ∙ joined_same (λ q. tasks_done (period_events tasks chunks number (sends_of routes link [] slots) q)) (λ q. [])
    (λ q. period_does is_done computes does_done tasks chunks number q (sends_of routes link [] slots) ∙ no_sends tasks chunks q routes link [] slots) n
    ∙ joined_nothing ℕ n

-- ---- all actors together

module _ (t : TimedView) (table : Table) (chunks : ℕ) (timed : IsTimed t) (fits : Fits t Tasking table) (p : ℕ → Bool) where
  abbrev weight_of : Actor → ℕ
  weight_of (Sender link) = 0
  weight_of (Consumer node) = share table.tasks chunks p node 0 table.routes

  short : All (λ route. length route.links ≤ table.depth) table.routes
  short = λ i d l. omega (arith, within_longest table.routes i d l, fits.depth)

  abbrev links : List ℕ
  links = filter (λ link. list_any (λ lane. nat_eq lane.link link) (lanes_of table.routes)) (range_with_len 0 (length t.platform.links))

  abbrev nodes : List ℕ
  nodes = filter (λ node. list_any (λ route. nat_eq route.end node) table.routes) (range_with_len 0 (length t.platform.nodes))

  each_end : All (λ route. (v : ℕ) → sum_by (λ node. cond (nat_eq route.end node) v 0) nodes ≡ v) table.routes
  each_end = λ i d l v.
      let exists = ends_exist t timed table fits i d l in
      one_of_all (λ node. list_any (λ route. nat_eq route.end node) table.routes) _ v 0 (length t.platform.nodes) (omega arith) (omega (arith, exists))
      (listed (λ (route : Route). nat_eq route.end _) table.routes i d l (eq-eqb _ _ refl))

  of_senders : (xs : List ℕ) → sum_by weight_of (map Sender xs) ≡ 0
  of_senders [] = refl
  of_senders (x ∷ xs) = omega (arith, of_senders xs, sum_by-cons weight_of (Sender x) (map Sender xs))

  of_consumers : (xs : List ℕ) → sum_by weight_of (map Consumer xs) ≡ sum_by (λ node. share table.tasks chunks p node 0 table.routes) xs
  of_consumers [] = refl
  of_consumers (x ∷ xs) =
      omega (arith, of_consumers xs, sum_by-cons weight_of (Consumer x) (map Consumer xs), sum_by-cons (λ node. share table.tasks chunks p node 0 table.routes) x xs)

  all_weights : sum_by weight_of (actors_of t table) ≡ count_by p (all_tasks table.tasks chunks 0 table.tasks)
  all_weights =
      sum_by-append weight_of (map Sender links) (map Consumer nodes)
      ∙ second _ _ _ (of_senders links) (of_consumers nodes ∙ spread table.tasks chunks p nodes 0 table.routes each_end ∙ total_is table.tasks chunks p 0 table.routes)
      ∙ ap (λ x. count_by p (all_tasks table.tasks chunks 0 x)) (sym fits.tasks)
    where
      second : (a b c : ℕ) → a ≡ 0 → b ≡ c → a + b ≡ c
      second a b c e f = omega (arith, e, f)

  module _ (some : 1 ≤ table.tasks) (more : run_periods table chunks ≡ batches_of table.tasks chunks + table.depth) where
    one_weight : (number : ℕ) (actor : Actor) → count_by p (tasks_done (program_from table chunks number actor)) ≡ weight_of actor
    one_weight number (Sender link) = ap (count_by p) (sender_idle table.tasks chunks number table.routes link table.slots (run_periods table chunks))
    one_weight number (Consumer node) =
        ap (λ n. count_by p (tasks_done (events_below table.tasks chunks number (computes_of node 0 0 table.routes) n))) more
        ∙ ap (count_by p) (consumed table.tasks chunks (batches_of table.tasks chunks + table.depth) number node 0 0 table.routes)
        ∙ node_share table.tasks chunks p table.depth some node 0 table.routes short

    of_actors : (number : ℕ) (actors : List Actor) → count_by p (flat_map tasks_done (each_numbered (program_from table chunks) number actors)) ≡ sum_by weight_of actors
    of_actors number [] = refl
    of_actors number (actor ∷ actors) =
        omega (
          arith,
          one_weight number actor,
          of_actors (number + 1) actors,
          sum_by-cons weight_of actor actors,
          count-append p (tasks_done (program_from table chunks number actor)) (flat_map tasks_done (each_numbered (program_from table chunks) (number + 1) actors)),
        )

    weighed : count_by p (computed_by (wiring_of t table chunks)) ≡ count_by p (range_with_len 0 chunks)
    weighed = of_actors 0 (actors_of t table) ∙ all_weights ∙ ap (count_by p) (whole_batches table.tasks chunks some)

-- where there are no chunks nobody does anything
nothing_done : (table : Table) (chunks number : ℕ) (actors : List Actor) → chunks ≡ 0 → flat_map tasks_done (each_numbered (program_from table chunks) number actors) ≡ []
nothing_done table chunks number [] none = refl
nothing_done table chunks number (actor ∷ actors) none =
    let idle : run_periods table chunks ≡ 0 = cond-true (nat_eq chunks 0) 0 (batches_of table.tasks chunks + table.depth) (eq-eqb chunks 0 none) in
    ap (λ n. tasks_done (events_below table.tasks chunks number (runs_of table actor) n) ++ flat_map tasks_done (each_numbered (program_from table chunks) (number + 1) actors)) idle
    ∙ nothing_done table chunks (number + 1) actors none

-- the tasks that are computed are the numbers below chunks, however they are counted
pub all_counted : (t : TimedView) (table : Table) (chunks : ℕ) → CanRun t table chunks → (p : ℕ → Bool) → count_by p (computed_by (wiring_of t table chunks)) ≡ count_by p (range_with_len 0 chunks)
all_counted t table chunks can p = elim (cases_eq chunks 0) [
  | inl none ↦ ap (count_by p) (nothing_done table chunks 0 (actors_of t table) none) ∙ sym (ap (λ n. count_by p (range_with_len 0 n)) none)
  | inr more ↦
      weighed t table chunks can.timed can.fits p (positive table.tasks (λ z. more (can.some z)))
      (cond-false (nat_eq chunks 0) 0 (batches_of table.tasks chunks + table.depth) (ne_eqb chunks 0 more))
]
  where
    positive : (n : ℕ) → (n ≡ 0 → ⊥) → 1 ≤ n
    positive n ne = omega (arith, ne)

-- ---- the clauses

counts_one : (b : Bool) → b ≡ true → one_if b ≡ 1
counts_one b e = ap one_if e

counts_none : (b : Bool) → b ≡ false → one_if b ≡ 0
counts_none b e = ap one_if e

-- numbers in a row have each of them once
before_row : (task first n : ℕ) → task < first → count_by (λ t. t == task) (range_with_len first n) ≡ 0
before_row task first zero less = refl
before_row task first (suc n) less =
    let none = counts_none (first == task) (ne_eqb first task (λ e. omega (arith, e, less))) in
    omega (arith, none, before_row task (first + 1) n (omega (arith, less)), count-cons (λ t. t == task) first (range_with_len (first + 1) n))

in_row : (task first n : ℕ) → first ≤ task → task < first + n → count_by (λ t. t == task) (range_with_len first n) ≡ 1
in_row task first zero le less = absurd (omega (arith, le, less))
in_row task first (suc n) le less = elim (cases_eq first task) [
  | inl same ↦
      let one = counts_one (first == task) (eq-eqb first task same) in
      omega (arith, one, before_row task (first + 1) n (omega (arith, same)), count-cons (λ t. t == task) first (range_with_len (first + 1) n))
  | inr other ↦
      let none = counts_none (first == task) (ne_eqb first task other) in
      omega (arith, none, in_row task (first + 1) n (omega (arith, le, other)) (omega (arith, less)), count-cons (λ t. t == task) first (range_with_len (first + 1) n))
]

none_past : (chunks first n : ℕ) → first + n ≤ chunks → count_by (λ t. nat_le chunks t) (range_with_len first n) ≡ 0
none_past chunks first zero le = refl
none_past chunks first (suc n) le =
    let before : nat_le chunks first ≡ false = grind (arith, nat_tests) in
    let none = counts_none (nat_le chunks first) before in
    omega (arith, none, none_past chunks (first + 1) n (omega (arith, le)), count-cons (λ t. nat_le chunks t) first (range_with_len (first + 1) n))

all_below : (chunks : ℕ) (xs : List ℕ) → count_by (λ t. nat_le chunks t) xs ≡ 0 → All (λ task. task < chunks) xs
all_below chunks [] none = All-nil (λ task. task < chunks)
all_below chunks (x ∷ xs) none =
    let parts = count-cons (λ t. nat_le chunks t) x xs in
    All-cons (λ task. task < chunks) x xs (below (nat_le chunks x) refl (omega (arith, none, parts))) (all_below chunks xs (omega (arith, none, parts)))
  where
    below : (b : Bool) → nat_le chunks x ≡ b → one_if b ≡ 0 → x < chunks
    below true e z = absurd (omega (arith, z))
    below false e z = grind (arith, nat_tests)

every_one : (xs : List ℕ) → count_by (λ t. true) xs ≡ length xs
every_one [] = refl
every_one (x ∷ xs) = omega (arith, every_one xs, count-cons (λ (t : ℕ). true) x xs)

pub computes_all : (t : TimedView) (table : Table) (chunks : ℕ) → CanRun t table chunks → ComputesAll (wiring_of t table chunks) chunks
computes_all t table chunks can = record {
  once = λ task less. all_counted t table chunks can (λ t. t == task) ∙ in_row task 0 chunks (omega arith) (omega (arith, less));
  exist = all_below chunks (computed_by (wiring_of t table chunks)) (all_counted t table chunks can (λ t. nat_le chunks t) ∙ none_past chunks 0 chunks (omega arith));
  as_many =
      sym (every_one (computed_by (wiring_of t table chunks))) ∙ all_counted t table chunks can (λ t. true) ∙ every_one (range_with_len 0 chunks) ∙ length-numbers 0 chunks;
}
