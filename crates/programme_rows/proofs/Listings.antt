-- Lists of the values of a function at the numbers that pass.
use Rattle.std.proofs.Common.{◌≡◌, ℕ, zero, suc, ◌+◌, ◌<◌, ◌≤◌, Bool, true, false, cond, List, [], ◌∷◌, ◌++◌, length, slice_index_or, All, ℤ, pos, ◌+ℤ◌, refl, ap, ◌∙◌, subst, arith, inl, inr, add-one}
use Rattle.std.proofs.lemmas.Int.{ints}
use Rattle.std.proofs.lemmas.List.{length-append, append_assoc}
use Rattle.std.proofs.lemmas.Bool.{cases_lt}
use Rattle.std.proofs.lemmas.List.Elements.{All-append, All-cons, All-nil, All-head, All-tail}
use Rattle.linear_program.specs.Sums.{sum_below}
use Rattle.linear_program.proofs.Sums.{first_sum}
use Rattle.programme_rows.specs.Listings.{each_where}
use Rattle.programme_rows.specs.Cells.{where_true}

-- what holds of each value holds of all
pub each_all : {A : Type 0} (P : A → Type 0) (passes : ℕ → Bool) (f : ℕ → A) (n : ℕ) → ((i : ℕ) → i < n → passes i ≡ true → P (f i)) → All P (each_where passes f n)
each_all P passes f zero h = All-nil P
each_all P passes f (suc n) h =
    All-append P (each_where passes f n) (cond (passes n) (f n ∷ []) []) (each_all P passes f n (λ i l e. h i (omega (arith, l)) e)) (last (passes n) refl)
  where
    last : (b : Bool) → passes n ≡ b → All P (cond b (f n ∷ []) [])
    last true e = All-cons P (f n) [] (h n (omega arith) e) (All-nil P)
    last false e = All-nil P

-- what holds of all of two lists holds of each
pub front : {A : Type 0} (P : A → Type 0) (xs ys : List A) → All P (xs ++ ys) → All P xs
front P [] ys all = All-nil P
front P (x ∷ xs) ys all = All-cons P x xs (All-head P x (xs ++ ys) all) (front P xs ys (All-tail P x (xs ++ ys) all))

pub back : {A : Type 0} (P : A → Type 0) (xs ys : List A) → All P (xs ++ ys) → All P ys
back P [] ys all = all
back P (x ∷ xs) ys all = back P xs ys (All-tail P x (xs ++ ys) all)

-- a value that a number passes is among those of all numbers
pub each_of : {A : Type 0} (P : A → Type 0) (passes : ℕ → Bool) (f : ℕ → A) (n : ℕ) → All P (each_where passes f n) → (i : ℕ) → i < n → passes i ≡ true → P (f i)
each_of P passes f zero all i l e = absurd (omega arith)
each_of P passes f (suc n) all i l e =
    elim (cases_lt i n) [
      | inl before ↦ each_of P passes f n (front P (each_where passes f n) (cond (passes n) (f n ∷ []) []) all) i before e
      | inr from ↦
          let is : n ≡ i = omega (arith, l, from) in
          subst (λ k. P (f k)) is (All-head P (f n) [] (subst (λ b. All P (cond b (f n ∷ []) [])) (ap passes is ∙ e) (back P (each_where passes f n) (cond (passes n) (f n ∷ []) []) all)))
    ]

-- there are at most as many values as numbers
pub each_few : {A : Type 0} (passes : ℕ → Bool) (f : ℕ → A) (n : ℕ) → length (each_where passes f n) ≤ n
each_few passes f zero = omega arith
each_few passes f (suc n) =
    few (length (each_where passes f n)) (length (cond (passes n) (f n ∷ []) [])) n (length-append (each_where passes f n) (cond (passes n) (f n ∷ []) [])) (each_few passes f n) (one (passes n))
  where
    one : (b : Bool) → length (cond b (f n ∷ []) []) ≤ 1
    one true = omega arith
    one false = omega arith

    few : (a b n : ℕ) {c : ℕ} → c ≡ a + b → a ≤ n → b ≤ 1 → c ≤ suc n
    few a b n e h k = omega arith

-- the sum of a function over a list
abbrev pub sum_over : {A : Type 0} → (A → ℤ) → List A → ℤ
sum_over f [] = pos 0
sum_over f (x ∷ xs) = f x +ℤ sum_over f xs

pub sum_over_append : {A : Type 0} (f : A → ℤ) (xs ys : List A) → sum_over f (xs ++ ys) ≡ sum_over f xs +ℤ sum_over f ys
sum_over_append f [] ys = omega (arith, ints)
sum_over_append f (x ∷ xs) ys = omega (arith, ints, sum_over_append f xs ys)

-- over the values that pass it is the sum over the numbers
pub sum_over_each : {A : Type 0} (f : A → ℤ) (passes : ℕ → Bool) (g : ℕ → A) (n : ℕ) → sum_over f (each_where passes g n) ≡ sum_below n (λ i. where_true (passes i) (f (g i)))
sum_over_each f passes g zero = refl
sum_over_each f passes g (suc n) =
    let joined = sum_over_append f (each_where passes g n) (cond (passes n) (g n ∷ []) []) in
    let before = sum_over_each f passes g n in
    joined ∙ both before (last (passes n))
  where
    last : (b : Bool) → sum_over f (cond b (g n ∷ []) []) ≡ where_true b (f (g n))
    last true = omega (arith, ints)
    last false = refl

    both : {a b c d : ℤ} → a ≡ b → c ≡ d → a +ℤ c ≡ b +ℤ d
    both e k = rw (e, k) refl

-- by index it is the sum over the list
pub sum_by_index : {A : Type 0} (f : A → ℤ) (d : A) (xs : List A) → sum_below (length xs) (λ j. f (slice_index_or xs j d)) ≡ sum_over f xs
sum_by_index f d [] = refl
sum_by_index f d (x ∷ xs) =
    first_sum (length xs) (λ j. f (slice_index_or (x ∷ xs) j d)) ∙ ap (λ z. f x +ℤ z) (sum_by_index f d xs)

-- a list that is to have one value more, where the number passes
pub pushed : {A : Type 0} (passes : ℕ → Bool) (f : ℕ → A) (n : ℕ) (b : Bool) (start old new : List A) → passes n ≡ b → old ≡ start ++ each_where passes f n →
    new ≡ old ++ cond b (f n ∷ []) [] → new ≡ start ++ each_where passes f (n + 1)
pushed passes f n b start old new e before more =
    rw (add-one, e) (more ∙ ap (λ xs. xs ++ cond b (f n ∷ []) []) before ∙ append_assoc start (each_where passes f n) (cond b (f n ∷ []) []))
