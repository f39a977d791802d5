-- Cells that are 0 count for nothing, and a divisor of 1 stays.
use Rattle.std.proofs.Common.{◌≡◌, ℕ, zero, suc, ◌+◌, ℤ, pos, nat_abs, Some, arith, refl, sym, ◌∙◌, ap}
use Rattle.std.proofs.Math.IntN.{*ℤ-zero}
use Rattle.std.proofs.Math.Nat.{one-dvd}
use Rattle.std.proofs.lemmas.Nat.Gcd.{IsGcd-from_zero}
use Rattle.ratio_core.specs.Fraction.{gcd_of}
use Rattle.ratio_core.proofs.GcdLemmas.{gcd_of_is}
use Rattle.linear_program.specs.Sizes.{fitting_combination}
use Rattle.linear_program.specs.Pivots.{row_divisor}

pub divisor_skips_zero : (a : ℕ) → gcd_of a 0 ≡ a
divisor_skips_zero a = sym (gcd_of_is a 0 a (IsGcd-from_zero a 0 refl))

pub divisor_stays_one : (b : ℕ) → gcd_of 1 b ≡ 1
divisor_stays_one b = sym (gcd_of_is 1 b 1 (one-dvd 1, one-dvd b, λ d h k. h))

-- a cell of 0 doesn't change the divisor of a row
pub row_skips_zero : (n : ℕ) (f : ℕ → ℤ) → f n ≡ pos 0 → row_divisor (suc n) f ≡ row_divisor n f
row_skips_zero n f none = ap (λ z. gcd_of (row_divisor n f) (nat_abs z)) none ∙ divisor_skips_zero (row_divisor n f)

-- the divisor of a row is 1 once it is 1
pub row_stays_one : (n k : ℕ) (f : ℕ → ℤ) → row_divisor n f ≡ 1 → row_divisor (n + k) f ≡ 1
row_stays_one n zero f one = ap (λ i. row_divisor i f) (let e : n + zero ≡ n = omega arith in e) ∙ one
row_stays_one n (suc k) f one =
    ap (λ i. row_divisor i f) (let e : n + suc k ≡ suc (n + k) = omega arith in e)
    ∙ ap (λ d. gcd_of d (nat_abs (f (n + k)))) (row_stays_one n k f one) ∙ divisor_stays_one (nat_abs (f (n + k)))

-- where both cells are 0 the combination is 0
pub zeros_fit : (p q : ℤ) → fitting_combination p (pos 0) q (pos 0) ≡ Some (pos 0)
zeros_fit p q = rw (*ℤ-zero p, *ℤ-zero q) refl
