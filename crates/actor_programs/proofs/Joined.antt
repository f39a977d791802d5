-- Lists for the numbers below one, joined: their elements, and the number of each.
use Rattle.std.proofs.Common.{◌≡◌, ℕ, zero, suc, ◌+◌, ◌-◌, ◌<◌, ◌≤◌, Bool, true, false, cond, List, [], ◌∷◌, ◌++◌, length, map, take, sum_by, count_by, sym, refl, ap, ◌∙◌, inl, inr, arith, Some, slice_get, slice_index_or, append_assoc, length-append, add-one}
use Rattle.std.proofs.lemmas.Bool.{cases_lt, cases_Bool}
use Rattle.std.proofs.lemmas.List.{take-append-le, append-nil, get_or_append_left, get_or-append_right, length-map}
use Rattle.std.proofs.lemmas.List.Sums.{sum_by-cons}
use Rattle.std.proofs.lemmas.Option.{slice_get_within}
use Rattle.actor_programs.specs.Tasks.{joined_below}
use Rattle.actor_programs.specs.Runs.{numbers_below}

-- 1 for yes
abbrev pub one_if : Bool → ℕ
one_if b = cond b 1 0

pub count-cons : {X : Type 0} (p : X → Bool) (x : X) (xs : List X) → count_by p (x ∷ xs) ≡ one_if (p x) + count_by p xs
count-cons p x xs = sum_by-cons (λ y. one_if (p y)) x xs

-- a sum of sums
pub sum-add : {X : Type 0} (f g : X → ℕ) (xs : List X) → sum_by (λ x. f x + g x) xs ≡ sum_by f xs + sum_by g xs
sum-add f g [] = refl
sum-add f g (x ∷ xs) = omega (arith, sum-add f g xs, sum_by-cons (λ y. f y + g y) x xs, sum_by-cons f x xs, sum_by-cons g x xs)

one : (b : Bool) → b ≡ true → one_if b ≡ 1
one b e = ap one_if e

none : (b : Bool) → b ≡ false → one_if b ≡ 0
none b e = ap one_if e

module _ {X : Type 0} (p : X → Bool) where
  -- where the element stands that has n before it, of those that pass
  abbrev pub Place : List X → ℕ → Type 0
  Place xs n = (j : ℕ) × (x : X) × (slice_get xs j ≡ Some x) × (p x ≡ true) × (count_by p (take j xs) ≡ n)

  pub find : (xs : List X) (n : ℕ) → n < count_by p xs → Place xs n
  find [] n h = absurd (omega arith)
  find (x ∷ xs) n h = elim (cases_Bool (p x)) [
    | inl passes ↦ at (find xs) n h (count-cons p x xs) (one (p x) passes) passes
    | inr fails ↦
        let rest = find xs n (omega (arith, h, count-cons p x xs, none (p x) fails)) in
        (suc rest.0, rest.1, rest.2, rest.3, omega (arith, rest.4, count-cons p x (take rest.0 xs), none (p x) fails))
  ]
    where
      at : ((k : ℕ) → k < count_by p xs → Place xs k) → (n : ℕ) → n < count_by p (x ∷ xs) → count_by p (x ∷ xs) ≡ one_if (p x) + count_by p xs
          → one_if (p x) ≡ 1 → p x ≡ true → Place (x ∷ xs) n
      at again zero h e o passes = (0, x, refl, passes, refl)
      at again (suc n) h e o passes =
          let rest = again n (omega arith) in
          (suc rest.0, rest.1, rest.2, rest.3, omega (arith, rest.4, count-cons p x (take rest.0 xs)))

  -- an element that passes has fewer such before it than there are
  pub count-before : (xs : List X) (j : ℕ) (x : X) → slice_get xs j ≡ Some x → p x ≡ true → count_by p (take j xs) < count_by p xs
  count-before [] zero x is passes = cc
  count-before [] (suc j) x is passes = cc
  count-before (y ∷ xs) zero x is passes =
      let same : y ≡ x = cc in
      omega (arith, count-cons p y xs, one (p y) (ap p same ∙ passes))
  count-before (y ∷ xs) (suc j) x is passes = omega (arith, count-before xs j x is passes, count-cons p y xs, count-cons p y (take j xs))

-- elements of a first part
pub slice_get-first : {X : Type 0} (xs ys : List X) (i : ℕ) → i < length xs → slice_get (xs ++ ys) i ≡ slice_get xs i
slice_get-first [] ys i h = absurd (omega arith)
slice_get-first (x ∷ xs) ys zero h = refl
slice_get-first (x ∷ xs) ys (suc i) h = slice_get-first xs ys i (omega arith)

constant : {X : Type 0} (n : ℕ) (xs : List X) (i : ℕ) → i < length xs → slice_index_or (map (λ x. n) xs) i 0 ≡ n
constant n [] i h = absurd (omega arith)
constant n (x ∷ xs) zero h = refl
constant n (x ∷ xs) (suc i) h = constant n xs i (omega arith)

module _ {X : Type 0} (f : ℕ → List X) where
  -- the lists below a lesser number come first
  pub first_part : (m n : ℕ) → m ≤ n → (rest : List X) × (joined_below f n ≡ joined_below f m ++ rest)
  first_part m zero h = let e : m ≡ 0 = omega arith in ([], rw e refl)
  first_part m (suc n) h = elim (cases_lt m (suc n)) [
    | inl less ↦
        let r = first_part m n (omega arith) in
        (r.0 ++ f n, rw r.1 (append_assoc (joined_below f m) r.0 (f n)))
    | inr more ↦ let e : m ≡ suc n = omega arith in ([], rw e (sym (append-nil (joined_below f (suc n)))))
  ]

  pub longer : (m n : ℕ) → m ≤ n → length (joined_below f m) ≤ length (joined_below f n)
  longer m n h = let r = first_part m n h in omega (arith, ap length r.1, length-append (joined_below f m) r.0)

  pub as_many_numbers : (n : ℕ) → length (numbers_below f n) ≡ length (joined_below f n)
  as_many_numbers zero = refl
  as_many_numbers (suc n) =
      omega (arith, as_many_numbers n, length-append (numbers_below f n) (map (λ x. n) (f n)), length-append (joined_below f n) (f n), length-map (f n) (λ x. n))

  -- the number whose list an element is in
  abbrev pub number_at : ℕ → ℕ → ℕ
  number_at n i = slice_index_or (numbers_below f n) i 0

  number-more : (n i : ℕ) → i < length (joined_below f n) → number_at (suc n) i ≡ number_at n i
  number-more n i h = get_or_append_left (numbers_below f n) (map (λ x. n) (f n)) 0 i (omega (arith, h, as_many_numbers n))

  number-last : (n i : ℕ) → length (joined_below f n) ≤ i → i < length (joined_below f (suc n)) → number_at (suc n) i ≡ n
  number-last n i past h =
      get_or-append_right (numbers_below f n) (map (λ x. n) (f n)) (length (joined_below f n)) i 0 (as_many_numbers n) past
      ∙ constant n (f n) (i - length (joined_below f n)) (omega (arith, h, past, length-append (joined_below f n) (f n)))

  pub number-within : (n i : ℕ) → i < length (joined_below f n) → (number_at n i < n) × (i < length (joined_below f (number_at n i + 1)))
  number-within zero i h = absurd (omega arith)
  number-within (suc n) i h = elim (cases_lt i (length (joined_below f n))) [
    | inl inside ↦
        let r = number-within n i inside in
        let e = number-more n i inside in
        (omega (arith, r.0, e), rw e r.1)
    | inr past ↦
        let e = number-last n i past h in
        (omega (arith, e), rw e (rw add-one h))
  ]

  pub number-below : (m n i : ℕ) → m ≤ n → i < length (joined_below f m) → number_at n i < m
  number-below m zero i le h = absurd (omega (arith, h, ap (λ k. length (joined_below f k)) (nothing le)))
    where
      nothing : m ≤ 0 → m ≡ 0
      nothing h = omega arith
  number-below m (suc n) i le h = elim (cases_lt m (suc n)) [
    | inl less ↦
        let r = number-below m n i (omega arith) h in
        let e = number-more n i (omega (arith, h, longer m n (omega arith))) in omega (arith, r, e)
    | inr more ↦
        let e : m ≡ suc n = omega arith in
        let w = number-within (suc n) i (rw e at h) in omega (arith, w.0, e)
  ]

  pub numbers-rise : (n i j : ℕ) → i ≤ j → j < length (joined_below f n) → number_at n i ≤ number_at n j
  numbers-rise n i j le h =
      let w = number-within n j h in
      let b = number-below (number_at n j + 1) n i (omega (arith, w.0)) (omega (arith, w.1, le)) in omega (arith, b)

  -- of those that pass, there are fewer before an element than up to the end of its list
  pub count-within_number : (p : X → Bool) (n i : ℕ) (x : X) → slice_get (joined_below f n) i ≡ Some x → p x ≡ true
      → count_by p (take i (joined_below f n)) < count_by p (joined_below f (number_at n i + 1))
  count-within_number p n i x is passes =
      let w = number-within n i (slice_get_within (joined_below f n) i x is) in
      let r = first_part (number_at n i + 1) n (omega (arith, w.0)) in
      let here : slice_get (joined_below f (number_at n i + 1)) i ≡ Some x =
      sym (slice_get-first (joined_below f (number_at n i + 1)) r.0 i w.1) ∙ ap (λ xs. slice_get xs i) (sym r.1) ∙ is in
      let front : take i (joined_below f n) ≡ take i (joined_below f (number_at n i + 1)) =
      ap (take i) r.1 ∙ take-append-le i (joined_below f (number_at n i + 1)) r.0 (omega (arith, w.1)) in
      rw front (count-before p (joined_below f (number_at n i + 1)) i x here passes)

  -- where there are more than k of them below m, one with k before it stands there
  pub find_below : (p : X → Bool) (m n k : ℕ) → m ≤ n → k < count_by p (joined_below f m)
      → (j : ℕ) × (x : X) × (slice_get (joined_below f n) j ≡ Some x) × (p x ≡ true) × (count_by p (take j (joined_below f n)) ≡ k) × (number_at n j < m)
  find_below p m n k le h =
      let there = find p (joined_below f m) k h in
      let r = first_part m n le in
      let inside = slice_get_within (joined_below f m) there.0 there.1 there.2 in (
        there.0,
        there.1,
        ap (λ xs. slice_get xs there.0) r.1 ∙ slice_get-first (joined_below f m) r.0 there.0 inside ∙ there.2,
        there.3,
        ap (λ xs. count_by p (take there.0 xs)) r.1 ∙ ap (count_by p) (take-append-le there.0 (joined_below f m) r.0 (omega (arith, inside))) ∙ there.4,
        number-below m n there.0 le inside,
      )
