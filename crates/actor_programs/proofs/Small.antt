-- Runs lie within the tasks of a batch and the depth of the table, so their events can be counted before they are laid out.
use Rattle.std.proofs.Common.{◌≡◌, ℕ, zero, suc, ◌+◌, ◌-◌, ◌*◌, ◌/◌, ◌%◌, ◌<◌, ◌≤◌, ◌^◌, Bool, true, false, cond, nat_eq, List, [], ◌∷◌, ◌++◌, length, map, filter, min, max, sum_by, get_or, sym, refl, ap, ◌∙◌, inl, inr, arith, All, Option, Some, None, length-append}
use Rattle.std.specs.List.{flat_map}
use Rattle.std.proofs.lemmas.Bool.{cases_lt, cases_eq, eq-eqb, ne_eqb, cond-true, cond-false}
use Rattle.std.proofs.lemmas.List.Elements.{All-nil, All-cons, All-head, All-tail, All-append, All-map, All-filter, All-weaker}
use Rattle.std.proofs.lemmas.List.Sums.{sum_by-cons, get_or-le-sum_by}
use Rattle.std.proofs.Math.Nat.{mul-le-mul_left, mul-le-mul_right}
use Rattle.platform_file.specs.Ticks.{TimedView}
use Rattle.schedule_model.specs.declared.schedule.Series.TheVariants.{Tasking}
use Rattle.flow_routes.specs.declared.flow.Route.{Route}
use Rattle.period_table.specs.declared.table.Table.{Table}
use Rattle.period_table.specs.declared.table.Slot.{Slot}
use Rattle.period_table.specs.declared.table.Piece.{Piece}
use Rattle.period_table.specs.Lanes.{LaneAt, lanes_of, lane_at}
use Rattle.period_table.specs.Tables.{moved_over, longest, Fits}
use Rattle.actor_programs.specs.declared.run.Run.{Run}
use Rattle.actor_programs.specs.Tasks.{batches_of, tasks_of_batch, joined_below, tasks_below, all_tasks, offset_at}
use Rattle.actor_programs.specs.Runs.{taken, used, task_events, run_tasks, period_events, events_below}
use Rattle.actor_programs.specs.Programs.{lane_before, run_of, is_over, sends_of, computes_of, runs_of}
use Rattle.actor_programs.specs.declared.actor.Actor.TheVariants.{Sender, Consumer}
use Rattle.actor_programs.specs.Lengths.{run_length, program_length}
use Rattle.actor_programs.proofs.Numbers.{joined_later, so_many, tasks_past}
use Rattle.actor_programs.proofs.LaneNumbers.{inside, beyond, offset_inside, offset_beyond}
use Rattle.actor_programs.proofs.Runs.{in_slot}
use Rattle.actor_programs.proofs.Programs.{moved_all}
use Rattle.actor_programs.proofs.Counted.{some_below, joined-length}
use Rattle.actor_programs.specs.declared.actor.Actor.{Actor}

-- a lane's tasks lie within a batch
pub lane_within : (routes : List Route) (k : ℕ) → offset_at routes k + (lane_at (lanes_of routes) k).count ≤ sum_by (λ route. route.count) routes
lane_within [] k = omega arith
lane_within (route ∷ routes) k = elim (cases_lt k (length route.links)) [
  | inl here ↦
      let count : (lane_at (lanes_of (route ∷ routes)) k).count ≡ route.count = ap (λ (l : LaneAt). l.count) (inside route routes k here) in
      omega (arith, count, offset_inside route routes k here, sum_by-cons (λ (r : Route). r.count) route routes)
  | inr later ↦
      let count : (lane_at (lanes_of (route ∷ routes)) k).count ≡ (lane_at (lanes_of routes) (k - length route.links)).count = ap (λ (l : LaneAt). l.count) (beyond route routes k later) in
      omega (arith, count, offset_beyond route routes k later, lane_within routes (k - length route.links), sum_by-cons (λ (r : Route). r.count) route routes)
]

hop_within : (routes : List Route) (k : ℕ) → (lane_at (lanes_of routes) k).hop ≤ longest routes
hop_within [] k = omega arith
hop_within (route ∷ routes) k = elim (cases_lt k (length route.links)) [
  | inl here ↦
      let hop : (lane_at (lanes_of (route ∷ routes)) k).hop ≡ k = ap (λ (l : LaneAt). l.hop) (inside route routes k here) in
      first k _ (length route.links) (longest routes) hop here
  | inr later ↦
      let hop : (lane_at (lanes_of (route ∷ routes)) k).hop ≡ (lane_at (lanes_of routes) (k - length route.links)).hop = ap (λ (l : LaneAt). l.hop) (beyond route routes k later) in
      second _ _ (length route.links) (longest routes) hop (hop_within routes (k - length route.links))
]
  where
    first : (k h n m : ℕ) → h ≡ k → k < n → h ≤ max n m
    first k h n m e l = omega arith

    second : (h i n m : ℕ) → h ≡ i → i ≤ m → h ≤ max n m
    second h i n m e l = omega arith

abbrev pub IsSmall : ℕ → ℕ → Run → Type 0
IsSmall tasks depth run = (run.offset + run.count ≤ tasks) × (run.hop ≤ depth)

-- no piece moves more than all of its slot
pieces_in : (pieces : List Piece) → All (λ piece. piece.count ≤ in_slot piece.lane pieces) pieces
pieces_in pieces = λ i d l.
    let k = (get_or pieces i d).lane in
    let part = get_or-le-sum_by (λ (piece : Piece). cond (nat_eq piece.lane k) piece.count 0) pieces i d l in
    let here : cond (nat_eq k k) (get_or pieces i d).count 0 ≡ (get_or pieces i d).count = cond-true (nat_eq k k) (get_or pieces i d).count 0 (eq-eqb k k refl) in
    omega (arith, part, here)

sends_small : (routes : List Route) (link tasks : ℕ) → tasks ≡ sum_by (λ route. route.count) routes → (before slots : List Slot)
    → ((k : ℕ) → moved_over k before + moved_over k slots ≡ (lane_at (lanes_of routes) k).count) → All (IsSmall tasks (longest routes)) (sends_of routes link before slots)
sends_small routes link tasks sum before [] all = All-nil (IsSmall tasks (longest routes))
sends_small routes link tasks sum before (slot ∷ slots) all =
    All-append (IsSmall tasks (longest routes)) (map (run_of routes before) (filter (is_over routes link) slot.pieces)) (sends_of routes link (slot ∷ before) slots)
    (All-map (IsSmall tasks (longest routes)) (run_of routes before) (filter (is_over routes link) slot.pieces)
    (All-filter (is_over routes link) (λ piece. IsSmall tasks (longest routes) (run_of routes before piece)) slot.pieces
    (All-weaker (λ (piece : Piece). piece.count ≤ in_slot piece.lane slot.pieces) (λ (piece : Piece). IsSmall tasks (longest routes) (run_of routes before piece))
    (λ piece part. (
      omega (arith, part, all piece.lane, sum_by-cons (λ (s : Slot). in_slot piece.lane s.pieces) slot slots, lane_within routes piece.lane, sum),
      hop_within routes piece.lane,
    ))
    slot.pieces (pieces_in slot.pieces))))
    (sends_small routes link tasks sum (slot ∷ before) slots
    (λ k. omega (arith, all k, sum_by-cons (λ (s : Slot). in_slot k s.pieces) slot slots, sum_by-cons (λ (s : Slot). in_slot k s.pieces) slot before)))

computes_small : (node lanes offset : ℕ) (routes : List Route) (tasks depth : ℕ) → offset + sum_by (λ route. route.count) routes ≤ tasks → longest routes ≤ depth
    → All (IsSmall tasks depth) (computes_of node lanes offset routes)
computes_small node lanes offset [] tasks depth sum long = All-nil (IsSmall tasks depth)
computes_small node lanes offset (route ∷ routes) tasks depth sum long =
    All-append (IsSmall tasks depth)
    (cond (nat_eq route.end node) (record { take = lane_before (length route.links) (lanes + length route.links); lane = None; hop = length route.links; offset = offset; count = route.count } ∷ []) [])
    (computes_of node (lanes + length route.links) (offset + route.count) routes)
    (one (nat_eq route.end node) _
    (omega (arith, sum, sum_by-cons (λ (r : Route). r.count) route routes), left (length route.links) (longest routes) depth long))
    (computes_small node (lanes + length route.links) (offset + route.count) routes tasks depth (omega (arith, sum, sum_by-cons (λ (r : Route). r.count) route routes))
    (right (length route.links) (longest routes) depth long))
  where
    one : (b : Bool) (run : Run) → IsSmall tasks depth run → All (IsSmall tasks depth) (cond b (run ∷ []) [])
    one true run small = All-cons (IsSmall tasks depth) run [] small (All-nil (IsSmall tasks depth))
    one false run small = All-nil (IsSmall tasks depth)

    left : (a b d : ℕ) → max a b ≤ d → a ≤ d
    left a b d l = omega arith

    right : (a b d : ℕ) → max a b ≤ d → b ≤ d
    right a b d l = omega arith

pub runs_small : (t : TimedView) (table : Table) → Fits t Tasking table → (actor : Actor) → All (IsSmall table.tasks table.depth) (runs_of table actor)
runs_small t table fits (Sender link) =
    rw fits.depth (sends_small table.routes link table.tasks fits.tasks [] table.slots (λ k. let all = moved_all t Tasking table fits k in omega (arith, all)))
runs_small t table fits (Consumer node) = computes_small node 0 0 table.routes table.tasks table.depth (omega (arith, fits.tasks)) (omega (arith, fits.depth))

-- ---- how many tasks there are in all batches

module _ (tasks chunks offset count : ℕ) (some : 1 ≤ tasks) (within : offset + count ≤ tasks) where
  full : (n : ℕ) → n * tasks ≤ chunks → so_many tasks chunks offset count n ≡ n * count
  full zero l = zeros count
    where
      zeros : (c : ℕ) → 0 ≡ 0 * c
      zeros c = omega arith
  full (suc n) l =
      let more : suc n * tasks ≡ n * tasks + tasks = omega arith in
      let counts : suc n * count ≡ n * count + count = omega arith in
      omega (
        arith,
        full n (omega (arith, l, more)),
        some_below chunks (n * tasks + offset) count,
        more,
        counts,
        l,
        length-append (tasks_below tasks chunks offset count n) (tasks_of_batch tasks chunks n offset count),
      )

  pub in_all : length (all_tasks tasks chunks offset count) ≡ (chunks / tasks) * count + min ((chunks % tasks) - offset) count
  in_all =
      let q = chunks / tasks in
      let r = chunks % tasks in
      let split : chunks ≡ q * tasks + r = omega arith in
      let enough : batches_of tasks chunks ≤ q + 1 = last q r split (omega arith) in
      let over : batches_of tasks chunks + ((q + 1) - batches_of tasks chunks) ≡ suc q = omega (arith, enough) in
      let same : so_many tasks chunks offset count (suc q) ≡ length (all_tasks tasks chunks offset count) =
      ap (so_many tasks chunks offset count) (sym over) ∙ ap length (tasks_past tasks chunks offset count some ((q + 1) - batches_of tasks chunks)) in
      omega (
        arith,
        same,
        full q (omega (arith, split)),
        some_below chunks (q * tasks + offset) count,
        split,
        length-append (tasks_below tasks chunks offset count q) (tasks_of_batch tasks chunks q offset count),
      )
    where
      least : (q r b x : ℕ) → chunks ≡ q * tasks + r → r < tasks → b * tasks ≤ x → x ≡ chunks + (tasks - 1) → b ≤ q + 1
      least q r b x split l h e = elim (cases_lt (q + 1) b) [
        | inl more ↦
            let prod : (q + 2) * tasks ≤ b * tasks = mul-le-mul_right tasks (omega (arith, more)) in
            let twice : (q + 2) * tasks ≡ q * tasks + (tasks + tasks) = omega arith in
            absurd (omega (arith, prod, twice, split, l, h, e, some))
        | inr few ↦ few
      ]

      last : (q r : ℕ) → chunks ≡ q * tasks + r → r < tasks → batches_of tasks chunks ≤ q + 1
      last q r split l = elim (cases_eq chunks 0) [
        | inl none ↦
            let nothing : batches_of tasks chunks ≡ 0 = cond-true (nat_eq chunks 0) 0 ((chunks + (tasks - 1)) / tasks) (eq-eqb chunks 0 none) in
            omega (arith, nothing)
        | inr more ↦
            let is : batches_of tasks chunks ≡ (chunks + (tasks - 1)) / tasks = cond-false (nat_eq chunks 0) 0 ((chunks + (tasks - 1)) / tasks) (ne_eqb chunks 0 more) in
            let le = least q r ((chunks + (tasks - 1)) / tasks) (chunks + (tasks - 1)) split l (omega arith) refl in
            omega (arith, is, le)
      ]

-- ---- how many events an actor has

task_length : (actor t : ℕ) (run : Run) → length (task_events actor run t) ≡ length (task_events 0 run 0)
task_length actor t run = go run.take run.lane
  where
    go : (take lane : Option ℕ) → length (taken actor take t ++ used actor lane t) ≡ length (taken 0 take 0 ++ used 0 lane 0)
    go None None = refl
    go None (Some l) = refl
    go (Some m) None = refl
    go (Some m) (Some l) = refl

flat_length : (actor : ℕ) (run : Run) (ts : List ℕ) → length (flat_map (task_events actor run) ts) ≡ length (task_events 0 run 0) * length ts
flat_length actor run [] = none (length (task_events 0 run 0))
  where
    none : (n : ℕ) → 0 ≡ n * 0
    none n = omega arith
flat_length actor run (t ∷ ts) =
    more _ _ _ _ _ (length-append (task_events actor run t) (flat_map (task_events actor run) ts)) (task_length actor t run) (flat_length actor run ts)
  where
    more : (a b c n m : ℕ) → a ≡ b + c → b ≡ n → c ≡ n * m → a ≡ n * suc m
    more a b c n m e f g = let d : n * suc m ≡ n * m + n = omega arith in omega (arith, d, e, f, g)

module _ (tasks chunks actor : ℕ) (run : Run) where
  laid_length : (n : ℕ) → length (joined_below (λ p. flat_map (task_events actor run) (run_tasks tasks chunks p run)) n)
      ≡ length (task_events 0 run 0) * length (joined_below (λ p. run_tasks tasks chunks p run) n)
  laid_length zero = none (length (task_events 0 run 0))
    where
      none : (n : ℕ) → 0 ≡ n * 0
      none n = omega arith
  laid_length (suc n) =
      more _ _ _ _ _ _ _
      (length-append (joined_below (λ p. flat_map (task_events actor run) (run_tasks tasks chunks p run)) n) (flat_map (task_events actor run) (run_tasks tasks chunks n run)))
      (laid_length n) (flat_length actor run (run_tasks tasks chunks n run))
      (length-append (joined_below (λ p. run_tasks tasks chunks p run) n) (run_tasks tasks chunks n run))
    where
      more : (a b c l x y z : ℕ) → a ≡ b + c → b ≡ l * x → c ≡ l * y → z ≡ x + y → a ≡ l * z
      more a b c l x y z e f g h = let d : l * (x + y) ≡ l * x + l * y = omega arith in let k : l * z ≡ l * (x + y) = ap (λ i. l * i) h in omega (arith, d, k, e, f, g)

  pub run_laid : (depth : ℕ) → 1 ≤ tasks → run.hop ≤ depth
      → length (joined_below (λ p. flat_map (task_events actor run) (run_tasks tasks chunks p run)) (batches_of tasks chunks + depth)) ≡ run_length tasks chunks run
  run_laid depth some le =
      let e : (batches_of tasks chunks + depth) - run.hop ≡ batches_of tasks chunks + (depth - run.hop) = omega arith in
      laid_length (batches_of tasks chunks + depth)
      ∙ ap (λ n. length (task_events 0 run 0) * n)
      (ap length (joined_later run.hop (λ b. tasks_of_batch tasks chunks b run.offset run.count) (batches_of tasks chunks + depth)
      ∙ ap (tasks_below tasks chunks run.offset run.count) e ∙ tasks_past tasks chunks run.offset run.count some (depth - run.hop)))

pub program_laid : (tasks chunks actor depth : ℕ) → 1 ≤ tasks → (runs : List Run) → All (IsSmall tasks depth) runs
    → length (events_below tasks chunks actor runs (batches_of tasks chunks + depth)) ≡ program_length tasks chunks runs
program_laid tasks chunks actor depth some [] each = ap length (none (batches_of tasks chunks + depth))
  where
    none : (n : ℕ) → events_below tasks chunks actor [] n ≡ []
    none zero = refl
    none (suc n) = ap (λ xs. xs ++ []) (none n)
program_laid tasks chunks actor depth some (run ∷ runs) each =
    sums _ _ _ _ _ _
    (joined-length (λ p. flat_map (task_events actor run) (run_tasks tasks chunks p run)) (period_events tasks chunks actor runs) (batches_of tasks chunks + depth))
    (run_laid tasks chunks actor run depth some (All-head (IsSmall tasks depth) run runs each).1)
    (program_laid tasks chunks actor depth some runs (All-tail (IsSmall tasks depth) run runs each))
    (sum_by-cons (run_length tasks chunks) run runs)
  where
    sums : (a b c n m z : ℕ) → a ≡ b + c → b ≡ n → c ≡ m → z ≡ n + m → a ≡ z
    sums a b c n m z e f g h = omega arith

pub few_tasks : (tasks chunks offset count : ℕ) → 1 ≤ tasks → offset + count ≤ tasks → length (all_tasks tasks chunks offset count) ≤ chunks
few_tasks tasks chunks offset count some within =
    part (chunks / tasks) (chunks % tasks) (length (all_tasks tasks chunks offset count)) (omega arith) (in_all tasks chunks offset count some within)
  where
    part : (q r n : ℕ) → chunks ≡ tasks * q + r → n ≡ q * count + min (r - offset) count → n ≤ chunks
    part q r n split e =
        let l : q * count ≤ q * tasks = mul-le-mul_left q (omega (arith, within)) in
        let s : q * tasks ≡ tasks * q = omega arith in
        omega (arith, l, s, split, e)

pub short_task : (run : Run) → length (task_events 0 run 0) ≤ 3
short_task run = go run.take run.lane
  where
    go : (take lane : Option ℕ) → length (taken 0 take 0 ++ used 0 lane 0) ≤ 3
    go None None = omega arith
    go None (Some l) = omega arith
    go (Some m) None = omega arith
    go (Some m) (Some l) = omega arith

pub product : (a b c d : ℕ) → a ≡ c → c ≤ 3 → b ≡ d → d ≤ 2 ^ 28 → a * b < 2 ^ 64
product a b c d e l f h = let p : a * b ≤ 3 * b = mul-le-mul_right b (omega (arith, e, l)) in omega (arith, p, f, h)
