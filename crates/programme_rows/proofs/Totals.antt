-- Totals of whole numbers, beside the sums of signed ones.
use Rattle.std.proofs.Common.{◌≡◌, ℕ, zero, suc, ◌+◌, ◌*◌, ◌<◌, ◌≤◌, true, false, cond, nat_eq, ℤ, pos, ◌-ℤ◌, refl, subst, arith, inl, inr}
use Rattle.std.proofs.lemmas.Int.{ints}
use Rattle.std.proofs.lemmas.Bool.{cases_lt}
use Rattle.std.proofs.lemmas.Bool.Decides.{nat_tests}
use Rattle.linear_program.specs.Sums.{sum_below}
use Rattle.programme_rows.specs.Listings.{total_below}

-- sums of whole numbers are totals
pub sum_pos : (n : ℕ) (f : ℕ → ℤ) (g : ℕ → ℕ) → ((i : ℕ) → f i ≡ pos (g i)) → sum_below n f ≡ pos (total_below n g)
sum_pos zero f g h = refl
sum_pos (suc n) f g h = rw (sum_pos n f g h, h n) (omega (arith, ints))

-- sums of differences are differences of totals
pub sum_difference : (n : ℕ) (f : ℕ → ℤ) (g h : ℕ → ℕ) → ((i : ℕ) → f i ≡ pos (g i) -ℤ pos (h i)) → sum_below n f ≡ pos (total_below n g) -ℤ pos (total_below n h)
sum_difference zero f g h e = omega (arith, ints)
sum_difference (suc n) f g h e = rw (sum_difference n f g h e, e n) (omega (arith, ints))

-- nothing comes to nothing
pub no_total : (n : ℕ) → total_below n (λ i. 0) ≡ 0
no_total zero = refl
no_total (suc n) = let before = no_total n in omega (arith, before)

-- one number is at most the total
pub one_of_total : (n : ℕ) (f : ℕ → ℕ) (i : ℕ) → i < n → f i ≤ total_below n f
one_of_total zero f i l = absurd (omega arith)
one_of_total (suc n) f i l =
    elim (cases_lt i n) [
      | inl before ↦ let most = one_of_total n f i before in omega (arith, most)
      | inr from ↦ let is : n ≡ i = omega (arith, l, from) in subst (λ k. f k ≤ total_below n f + f n) is (omega arith)
    ]

-- equal numbers come to the same total
pub same_total : (n : ℕ) (f g : ℕ → ℕ) → ((k : ℕ) → k < n → f k ≡ g k) → total_below n f ≡ total_below n g
same_total zero f g h = refl
same_total (suc n) f g h =
    let before = same_total n f g (λ k l. h k (omega arith)) in
    let last = h n (omega arith) in
    omega (arith, before, last)

-- the total of the sums is the sum of the totals
pub total_plus : (n : ℕ) (f g : ℕ → ℕ) → total_below n (λ k. f k + g k) ≡ total_below n f + total_below n g
total_plus zero f g = refl
total_plus (suc n) f g = let before = total_plus n f g in omega (arith, before)

-- a factor is spread over all numbers
pub total_scaled : (n b : ℕ) (f : ℕ → ℕ) → total_below n (λ k. b * f k) ≡ b * total_below n f
total_scaled zero b f = omega arith
total_scaled (suc n) b f = let before = total_scaled n b f in omega (arith, before)

-- lesser numbers come to a lesser total
pub total_at_most : (n : ℕ) (f g : ℕ → ℕ) → ((k : ℕ) → k < n → f k ≤ g k) → total_below n f ≤ total_below n g
total_at_most zero f g h = omega arith
total_at_most (suc n) f g h =
    let before = total_at_most n f g (λ k l. h k (omega arith)) in
    let last = h n (omega arith) in
    omega (arith, before, last)

-- a total of which one number alone may not be 0
none_before : (n e c : ℕ) → n ≤ e → total_below n (λ k. cond (nat_eq k e) c 0) ≡ 0
none_before zero e c l = refl
none_before (suc n) e c l =
    let other : nat_eq n e ≡ false = grind (arith, nat_tests) in
    let before = none_before n e c (omega arith) in
    rw other (omega (arith, before))

pub one_total : (n e c : ℕ) → e < n → total_below n (λ k. cond (nat_eq k e) c 0) ≡ c
one_total zero e c l = absurd (omega arith)
one_total (suc n) e c l =
    elim (cases_lt e n) [
      | inl below ↦
          let other : nat_eq n e ≡ false = grind (arith, nat_tests) in
          let before = one_total n e c below in
          rw other (omega (arith, before))
      | inr from ↦
          let same : nat_eq n e ≡ true = grind (arith, nat_tests) in
          let before = none_before n e c (omega arith) in
          rw same (omega (arith, before))
    ]
