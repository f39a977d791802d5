-- Which tasks a route has in some batches, and how many.
use Rattle.std.proofs.Common.{◌≡◌, ℕ, zero, suc, ◌+◌, ◌-◌, ◌*◌, ◌/◌, ◌<◌, ◌≤◌, Bool, true, false, cond, nat_eq, nat_lt, nat_le, List, [], ◌++◌, length, filter, refl, ap, ◌∙◌, inl, inr, arith, length-append}
use Rattle.std.specs.List.{range_with_len}
use Rattle.std.proofs.lemmas.Bool.{cases_lt, cases_eq}
use Rattle.std.proofs.lemmas.Bool.Decides.{nat_tests}
use Rattle.std.proofs.lemmas.List.{append-nil}
use Rattle.std.proofs.Math.Nat.{mul-le-mul_right}
use Rattle.std.proofs.lemmas.List.Elements.{filter-append}
use Rattle.std.proofs.lemmas.List.Sums.{length-filter, count_by-le-length}
use Rattle.actor_programs.specs.Tasks.{batches_of, tasks_of_batch, joined_below, tasks_below, all_tasks}

-- ---- joined lists

pub joined_same : {X : Type 0} (f g : ℕ → List X) → ((p : ℕ) → f p ≡ g p) → (n : ℕ) → joined_below f n ≡ joined_below g n
joined_same f g same zero = refl
joined_same f g same (suc n) = rw (joined_same f g same n, same n) refl

pub joined_nothing : (X : Type 0) (n : ℕ) → joined_below {X = X} (λ p. []) n ≡ []
joined_nothing X zero = refl
joined_nothing X (suc n) = ap (λ xs. xs ++ []) (joined_nothing X n)

pub joined_if : (X : Type 0) (b : Bool) (f : ℕ → List X) (n : ℕ) → joined_below {X = X} (λ p. cond b (f p) []) n ≡ cond b (joined_below f n) []
joined_if X true f n = refl
joined_if X false f n = joined_nothing X n

-- lists from a number on are the lists that begin there
pub joined_later : {X : Type 0} (h : ℕ) (f : ℕ → List X) (n : ℕ) → joined_below (λ p. cond (nat_le h p) (f (p - h)) []) n ≡ joined_below f (n - h)
joined_later h f zero = ap (joined_below f) (none h)
  where
    none : (h : ℕ) → 0 ≡ 0 - h
    none h = omega arith
joined_later h f (suc n) = elim (cases_lt n h) [
  | inl early ↦
      let no : nat_le h n ≡ false = grind (arith, nat_tests) in
      let e : n - h ≡ 0 = omega arith in
      let d : suc n - h ≡ 0 = omega arith in
      rw (no, joined_later h f n, e, d) refl
  | inr late ↦
      let yes : nat_le h n ≡ true = grind (arith, nat_tests) in
      let d : suc n - h ≡ suc (n - h) = omega arith in
      rw (yes, joined_later h f n, d) refl
]

-- ---- numbers

pub numbers-join : (first m n : ℕ) → range_with_len first (m + n) ≡ range_with_len first m ++ range_with_len (first + m) n
numbers-join first zero n = let e : 0 + n ≡ n = omega arith in let d : first + 0 ≡ first = omega arith in rw (e, d) refl
numbers-join first (suc m) n =
    let e : suc m + n ≡ suc (m + n) = omega arith in
    let d : first + suc m ≡ (first + 1) + m = omega arith in
    rw (e, d, numbers-join (first + 1) m n) refl

pub length-numbers : (first n : ℕ) → length (range_with_len first n) ≡ n
length-numbers first zero = refl
length-numbers first (suc n) = ap suc (length-numbers (first + 1) n)

-- ---- the tasks of a batch

pub batch-join : (tasks chunks batch offset m n : ℕ)
    → tasks_of_batch tasks chunks batch offset (m + n) ≡ tasks_of_batch tasks chunks batch offset m ++ tasks_of_batch tasks chunks batch (offset + m) n
batch-join tasks chunks batch offset m n =
    let e : (batch * tasks + offset) + m ≡ batch * tasks + (offset + m) = omega arith in
    ap (filter (λ t. nat_lt t chunks)) (numbers-join (batch * tasks + offset) m n)
    ∙ filter-append (λ t. nat_lt t chunks) (range_with_len (batch * tasks + offset) m) (range_with_len ((batch * tasks + offset) + m) n)
    ∙ rw e refl

pub batch-le : (tasks chunks batch offset count : ℕ) → length (tasks_of_batch tasks chunks batch offset count) ≤ count
batch-le tasks chunks batch offset count =
    omega (
      arith,
      length-filter (λ t. nat_lt t chunks) (range_with_len (batch * tasks + offset) count),
      count_by-le-length (λ t. nat_lt t chunks) (range_with_len (batch * tasks + offset) count),
      length-numbers (batch * tasks + offset) count,
    )

pub none_below : (chunks first n : ℕ) → chunks ≤ first → filter (λ t. nat_lt t chunks) (range_with_len first n) ≡ []
none_below chunks first zero le = refl
none_below chunks first (suc n) le =
    let no : nat_lt first chunks ≡ false = grind (arith, nat_tests) in rw no (none_below chunks (first + 1) n (omega arith))

-- ---- the tasks of the first batches

module _ (tasks chunks offset count : ℕ) where
  abbrev pub so_many : ℕ → ℕ
  so_many n = length (tasks_below tasks chunks offset count n)

  so_many-more : (n : ℕ) → so_many (suc n) ≡ so_many n + length (tasks_of_batch tasks chunks n offset count)
  so_many-more n = length-append (tasks_below tasks chunks offset count n) (tasks_of_batch tasks chunks n offset count)

  -- two more batches
  pub two_more : (n : ℕ) → so_many (suc (suc n)) ≤ so_many n + 2 * count
  two_more n = omega (arith, so_many-more n, so_many-more (suc n), batch-le tasks chunks n offset count, batch-le tasks chunks (suc n) offset count)

  pub one_batch : so_many 1 ≤ count
  one_batch = omega (arith, so_many-more 0, batch-le tasks chunks 0 offset count)

  pub more_batches : (m n : ℕ) → m ≤ n → so_many m ≤ so_many n
  more_batches m zero le = let e : m ≡ 0 = omega arith in rw e (omega arith)
  more_batches m (suc n) le = elim (cases_lt m (suc n)) [
    | inl less ↦ let r = more_batches m n (omega arith) in omega (arith, r, so_many-more n)
    | inr same ↦ let e : m ≡ suc n = omega arith in rw e (omega arith)
  ]

  -- batches from the last on have none
  pub past_last : 1 ≤ tasks → (batch : ℕ) → batches_of tasks chunks ≤ batch → chunks ≤ batch * tasks
  past_last some batch le = elim (cases_eq chunks 0) [
    | inl none ↦ omega (arith, none)
    | inr more ↦
        let is : nat_eq chunks 0 ≡ false = grind (arith, nat_tests) in
        let few : (chunks + (tasks - 1)) / tasks ≤ batch = rw is at le in
        let prod : ((chunks + (tasks - 1)) / tasks) * tasks ≤ batch * tasks = mul-le-mul_right tasks few in
        whole (chunks + (tasks - 1)) ((chunks + (tasks - 1)) / tasks) prod (omega arith) (omega arith)
  ]
    where
      whole : (x q : ℕ) → q * tasks ≤ batch * tasks → x < q * tasks + tasks → chunks + (tasks - 1) ≡ x → chunks ≤ batch * tasks
      whole x q h l e = omega arith

  pub nothing_past : 1 ≤ tasks → (batch : ℕ) → batches_of tasks chunks ≤ batch → tasks_of_batch tasks chunks batch offset count ≡ []
  nothing_past some batch le = none_below chunks (batch * tasks + offset) count (omega (arith, past_last some batch le))

  -- the tasks of all batches and some more are those of all
  pub tasks_past : 1 ≤ tasks → (n : ℕ) → tasks_below tasks chunks offset count (batches_of tasks chunks + n) ≡ all_tasks tasks chunks offset count
  tasks_past some zero = let e : batches_of tasks chunks + 0 ≡ batches_of tasks chunks = omega arith in ap (tasks_below tasks chunks offset count) e
  tasks_past some (suc n) =
      let e : batches_of tasks chunks + suc n ≡ suc (batches_of tasks chunks + n) = omega arith in
      ap (tasks_below tasks chunks offset count) e
      ∙ rw (nothing_past some (batches_of tasks chunks + n) (omega arith), append-nil (tasks_below tasks chunks offset count (batches_of tasks chunks + n))) (tasks_past some n)

  pub at_most_all : 1 ≤ tasks → (n : ℕ) → so_many n ≤ length (all_tasks tasks chunks offset count)
  at_most_all some n = elim (cases_lt n (batches_of tasks chunks)) [
    | inl less ↦ more_batches n (batches_of tasks chunks) (omega arith)
    | inr past ↦
        let e : n ≡ batches_of tasks chunks + (n - batches_of tasks chunks) = omega arith in
        let d : so_many n ≡ length (all_tasks tasks chunks offset count) = ap so_many e ∙ ap length (tasks_past some (n - batches_of tasks chunks)) in
        omega (arith, d)
  ]
