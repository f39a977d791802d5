-- The list of a route has the tasks of the route's places in each batch, those that exist, ascending.
use Rattle.std.proofs.Common.{◌≡◌, ℕ, zero, suc, ◌+◌, ◌-◌, ◌*◌, ◌<◌, ◌≤◌, Bool, true, false, cond, nat_lt, List, [], ◌∷◌, ◌++◌, length, map, filter, sum_by, sym, refl, ap, ◌∙◌, inl, inr, subst, arith, All, slice_index_or, length-append}
use Rattle.std.specs.Prelude.{◌↔◌}
use Rattle.std.specs.List.{range_with_len, AllPairs, Contains}
use Rattle.std.proofs.lemmas.Bool.{cases_lt, cases_eq, lt-ltb}
use Rattle.std.proofs.lemmas.Bool.Decides.{nat_tests}
use Rattle.std.proofs.lemmas.List.{get_or_append_left, get_or-append_right, get_or-map, get_or_past, length-map}
use Rattle.std.proofs.lemmas.List.Elements.{All-nil, All-cons, All-append, All-weaker, Contains-append_left, Contains-append_right}
use Rattle.std.proofs.lemmas.List.Kept.{AllPairs-filter}
use Rattle.std.proofs.lemmas.List.Sums.{sum_by_more, sum_by-take-le}
use Rattle.std.proofs.Math.Nat.{mul-le-mul_right}
use Rattle.platform_file.specs.Ticks.{TimedView}
use Rattle.flow_routes.specs.declared.flow.Route.{Route}
use Rattle.period_table.specs.declared.table.Table.{Table}
use Rattle.actor_programs.specs.Tasks.{batches_of, tasks_of_batch, tasks_below, offset_of, count_of, route_tasks}
use Rattle.actor_programs.specs.Carried.{CanRun, IsOfRoute}
use Rattle.actor_programs.proofs.Numbers.{past_last}
use Rattle.actor_programs.proofs.Acting.{numbers_differ}

module _ (chunks : ℕ) where
  -- the number stands in the row and exists
  abbrev IsInRow : ℕ → ℕ → ℕ → Type 0
  IsInRow first n t = (first ≤ t) × (t < first + n) × (t < chunks)

  row_all : (first n : ℕ) → All (IsInRow first n) (filter (λ t. nat_lt t chunks) (range_with_len first n))
  row_all first zero = All-nil (IsInRow first 0)
  row_all first (suc n) =
      pick (nat_lt first chunks) refl
      (All-weaker (IsInRow (first + 1) n) (IsInRow first (suc n)) (λ t r. (omega (arith, r.0), omega (arith, r.1), r.2)) (filter (λ t. nat_lt t chunks) (range_with_len (first + 1) n)) (row_all (first + 1) n))
    where
      pick : (b : Bool) → nat_lt first chunks ≡ b → All (IsInRow first (suc n)) (filter (λ t. nat_lt t chunks) (range_with_len (first + 1) n))
          → All (IsInRow first (suc n)) (cond b (first ∷ filter (λ t. nat_lt t chunks) (range_with_len (first + 1) n)) (filter (λ t. nat_lt t chunks) (range_with_len (first + 1) n)))
      pick true e rest =
          All-cons (IsInRow first (suc n)) first (filter (λ t. nat_lt t chunks) (range_with_len (first + 1) n)) (omega arith, omega arith, grind (arith, nat_tests)) rest
      pick false e rest = rest

  in_row : (first n t : ℕ) → IsInRow first n t → Contains (filter (λ t. nat_lt t chunks) (range_with_len first n)) t
  in_row first zero t r = absurd (omega (arith, r.0, r.1))
  in_row first (suc n) t r = elim (cases_eq first t) [
    | inl same ↦
        let kept : nat_lt first chunks ≡ true = lt-ltb first chunks (omega (arith, same, r.2)) in
        subst (λ (b : Bool). Contains (cond b (first ∷ filter (λ t. nat_lt t chunks) (range_with_len (first + 1) n)) (filter (λ t. nat_lt t chunks) (range_with_len (first + 1) n))) t) (sym kept)
        (0, omega arith, same)
    | inr other ↦
        pick (nat_lt first chunks) (filter (λ t. nat_lt t chunks) (range_with_len (first + 1) n)) (in_row (first + 1) n t (omega (arith, r.0, other), omega (arith, r.1), r.2))
  ]
    where
      pick : (b : Bool) (xs : List ℕ) → Contains xs t → Contains (cond b (first ∷ xs) xs) t
      pick true xs c = (suc c.0, omega (arith, c.1), c.2)
      pick false xs c = c

  module _ (tasks offset count : ℕ) where
    -- the task is of one of the first batches
    abbrev IsBelow : ℕ → ℕ → Type 0
    IsBelow n t = (batch : ℕ) × (i : ℕ) × (batch < n) × (i < count) × (t ≡ (batch * tasks + offset) + i) × (t < chunks)

    below_all : (n : ℕ) → All (IsBelow n) (tasks_below tasks chunks offset count n)
    below_all zero = All-nil (IsBelow 0)
    below_all (suc n) =
        All-append (IsBelow (suc n)) (tasks_below tasks chunks offset count n) (tasks_of_batch tasks chunks n offset count)
        (All-weaker (IsBelow n) (IsBelow (suc n)) (λ t b. (b.0, b.1, omega (arith, b.2), b.3, b.4, b.5)) (tasks_below tasks chunks offset count n) (below_all n))
        (All-weaker (IsInRow (n * tasks + offset) count) (IsBelow (suc n))
        (λ t r. (n, t - (n * tasks + offset), omega arith, omega (arith, r.0, r.1), omega (arith, r.0), r.2)) (tasks_of_batch tasks chunks n offset count) (row_all (n * tasks + offset) count))

    in_below : (n batch i t : ℕ) → batch < n → i < count → t ≡ (batch * tasks + offset) + i → t < chunks → Contains (tasks_below tasks chunks offset count n) t
    in_below zero batch i t less few is exists = absurd (omega (arith, less))
    in_below (suc n) batch i t less few is exists = elim (cases_lt batch n) [
      | inl before ↦ Contains-append_left (tasks_below tasks chunks offset count n) (tasks_of_batch tasks chunks n offset count) t (in_below n batch i t before few is exists)
      | inr past ↦
          let last : batch ≡ n = omega (arith, less, past) in
          let here : t ≡ (n * tasks + offset) + i = is ∙ ap (λ b. (b * tasks + offset) + i) last in
          Contains-append_right (tasks_below tasks chunks offset count n) (tasks_of_batch tasks chunks n offset count) t
          (in_row (n * tasks + offset) count t (omega (arith, here), omega (arith, here, few), exists))
    ]

    -- ascending, where the places lie within a batch
    pairs-append : (xs ys : List ℕ) → AllPairs (λ a b. a < b) xs → AllPairs (λ a b. a < b) ys → ((i j d : ℕ) → i < length xs → j < length ys → slice_index_or xs i d < slice_index_or ys j d)
        → AllPairs (λ a b. a < b) (xs ++ ys)
    pairs-append xs ys p q across = λ i j d less l. elim (cases_lt j (length xs)) [
      | inl front ↦
          let x = get_or_append_left xs ys d i (omega (arith, less, front)) in
          let y = get_or_append_left xs ys d j front in
          omega (arith, p i j d less front, x, y)
      | inr back ↦
          let y = get_or-append_right xs ys (length xs) j d refl back in
          let there : j - length xs < length ys = omega (arith, l, back, length-append xs ys) in
          elim (cases_lt i (length xs)) [
            | inl front ↦
                let x = get_or_append_left xs ys d i front in
                omega (arith, across i (j - length xs) d front there, x, y)
            | inr far ↦
                let x = get_or-append_right xs ys (length xs) i d refl far in
                omega (arith, q (i - length xs) (j - length xs) d (omega (arith, less, far)) there, x, y)
          ]
    ]

    rising : offset + count ≤ tasks → (n : ℕ) → AllPairs (λ a b. a < b) (tasks_below tasks chunks offset count n)
    rising within zero = λ i j d less l. absurd (omega (arith, l))
    rising within (suc n) =
        pairs-append (tasks_below tasks chunks offset count n) (tasks_of_batch tasks chunks n offset count) (rising within n)
        (AllPairs-filter (λ a b. a < b) (λ t. nat_lt t chunks) (range_with_len (n * tasks + offset) count) (numbers_differ (n * tasks + offset) count))
        (λ i j d l m.
        let x = below_all n i d l in
        let y = row_all (n * tasks + offset) count j d m in
        let most : (x.0 + 1) * tasks ≤ n * tasks = mul-le-mul_right tasks (omega (arith, x.2)) in
        let more : (x.0 + 1) * tasks ≡ x.0 * tasks + tasks = omega arith in
        omega (arith, x.3, x.4, y.0, most, more, within))

route_within : (routes : List Route) (route : ℕ) → offset_of routes route + count_of routes route ≤ sum_by (λ r. r.count) routes
route_within routes route = elim (cases_lt route (length routes)) [
  | inl inside ↦
      let d : Route = slice_index_or routes route (record { kind = 0; end = 0; links = []; count = 0 }) in
      let count : count_of routes route ≡ (slice_index_or routes route d).count = get_or-map (λ (r : Route). r.count) routes route d 0 inside in
      omega (arith, count, sum_by_more (λ (r : Route). r.count) routes route d inside, sum_by-take-le (λ (r : Route). r.count) routes (route + 1))
  | inr past ↦
      let count : count_of routes route ≡ 0 = get_or_past (map (λ (r : Route). r.count) routes) route 0 (omega (arith, past, length-map routes (λ (r : Route). r.count))) in
      omega (arith, count, sum_by-take-le (λ (r : Route). r.count) routes route)
]

pub listed : (t : TimedView) (table : Table) (chunks route task : ℕ) → CanRun t table chunks → (Contains (route_tasks table chunks route) task ↔ IsOfRoute table chunks route task)
listed t table chunks route task can = (
  λ c.
      let b = below_all chunks table.tasks (offset_of table.routes route) (count_of table.routes route) (batches_of table.tasks chunks) c.0 task c.1 in
      let r = subst (IsBelow chunks table.tasks (offset_of table.routes route) (count_of table.routes route) (batches_of table.tasks chunks)) c.2 b in
      (r.0, r.1, r.3, r.4, r.5),
  λ is. elim (cases_lt is.0 (batches_of table.tasks chunks)) [
    | inl within ↦ in_below chunks table.tasks (offset_of table.routes route) (count_of table.routes route) (batches_of table.tasks chunks) is.0 is.1 task within is.2 is.3 is.4
    | inr past ↦
        let some : 1 ≤ table.tasks = positive (λ z. can.some z) is.4 in
        absurd (omega (arith, is.4, is.3, past_last table.tasks chunks 0 0 some is.0 past))
  ],
)
  where
    positive : (table.tasks ≡ 0 → chunks ≡ 0) → task < chunks → 1 ≤ table.tasks
    positive none less = elim (cases_eq table.tasks 0) [
      | inl z ↦ absurd (omega (arith, none z, less))
      | inr more ↦ omega (arith, more)
    ]

pub ascending : (t : TimedView) (table : Table) (chunks route : ℕ) → CanRun t table chunks → AllPairs (λ a b. a < b) (route_tasks table chunks route)
ascending t table chunks route can =
    rising chunks table.tasks (offset_of table.routes route) (count_of table.routes route) (omega (arith, route_within table.routes route, can.fits.tasks)) (batches_of table.tasks chunks)
