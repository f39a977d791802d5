-- A search for the first number that passes.
use Rattle.std.proofs.Common.{◌≡◌, ℕ, zero, suc, ◌<◌, Bool, true, false, cond, Option, Some, None, arith, refl, inl, inr}
use Rattle.std.proofs.lemmas.Bool.{cases_eq}
use Rattle.linear_program.specs.Pivots.{first_below, first_some}

-- the first number that passes
none_passes_more : (n j : ℕ) (passes : ℕ → Bool) (o : Option ℕ) (b : Bool) → passes n ≡ b → first_some o (cond b (Some n) None) ≡ None → j < suc n →
    (o ≡ None → j < n → passes j ≡ false) → passes j ≡ false
none_passes_more n j passes (Some k) b f h l before = cc
none_passes_more n j passes None true f h l before = cc
none_passes_more n j passes None false f h l before =
    elim (cases_eq j n) [
      | inl same ↦ rw same f
      | inr other ↦ before refl (omega arith)
    ]

pub none_passes : (n : ℕ) (passes : ℕ → Bool) → first_below n passes ≡ None → (j : ℕ) → j < n → passes j ≡ false
none_passes zero passes h j l = absurd (omega arith)
none_passes (suc n) passes h j l =
    none_passes_more n j passes (first_below n passes) (passes n) refl h l (λ e m. none_passes n passes e j m)

-- where no number passes, the search finds none
pub nothing_found : (n : ℕ) (passes : ℕ → Bool) → ((j : ℕ) → j < n → passes j ≡ false) → first_below n passes ≡ None
nothing_found zero passes h = refl
nothing_found (suc n) passes h = rw (nothing_found n passes (λ j l. h j (omega arith)), h n (omega arith)) refl

-- the number passes and no lesser one does
abbrev pub IsFirst : ℕ → (ℕ → Bool) → ℕ → Type 0
IsFirst n passes k = (k < n) × (passes k ≡ true) × ((j : ℕ) → j < k → passes j ≡ false)

first_passes_more : (n k : ℕ) (passes : ℕ → Bool) (o : Option ℕ) (b : Bool) → passes n ≡ b → first_some o (cond b (Some n) None) ≡ Some k →
    (o ≡ Some k → IsFirst n passes k) → (o ≡ None → (j : ℕ) → j < n → passes j ≡ false) → IsFirst (suc n) passes k
first_passes_more n k passes (Some m) b f h before none = let found = before h in let l : k < n = found.0 in (omega arith, found.1, found.2)
first_passes_more n k passes None true f h before none = let same : n ≡ k = cc in (omega arith, rw (← same) f, λ j l. none refl j (omega arith))
first_passes_more n k passes None false f h before none = cc

pub first_passes : (n : ℕ) (passes : ℕ → Bool) (k : ℕ) → first_below n passes ≡ Some k → IsFirst n passes k
first_passes zero passes k h = cc
first_passes (suc n) passes k h =
    first_passes_more n k passes (first_below n passes) (passes n) refl h (λ e. first_passes n passes k e) (λ e. none_passes n passes e)

-- the search ends at the first number that passes
pub first_found : (n k : ℕ) (passes : ℕ → Bool) → k < n → first_below k passes ≡ None → passes k ≡ true → first_below n passes ≡ Some k
first_found zero k passes l none here = absurd (omega arith)
first_found (suc n) k passes l none here =
    elim (cases_eq k n) [
      | inl same ↦ rw (← same, none, here) refl
      | inr other ↦ let before = first_found n k passes (omega arith) none here in rw before refl
    ]
