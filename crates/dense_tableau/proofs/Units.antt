-- A row with a cell of 1 or -1 has no greater divisor.
use Rattle.std.proofs.Common.{◌≡◌, ℕ, suc, ◌+◌, ◌-◌, ◌<◌, ℤ, nat_abs, arith, sym, ◌∙◌, ap}
use Rattle.std.proofs.Math.Nat.{one-dvd}
use Rattle.ratio_core.specs.Fraction.{gcd_of}
use Rattle.ratio_core.proofs.GcdLemmas.{gcd_of_is}
use Rattle.linear_program.specs.Pivots.{row_divisor}
use Rattle.linear_program.proofs.Skips.{row_stays_one}

divisor_beside_one : (a : ℕ) → gcd_of a 1 ≡ 1
divisor_beside_one a = sym (gcd_of_is a 1 1 (one-dvd a, one-dvd 1, λ d left right. right))

pub unit_leaves_one : (n column : ℕ) (f : ℕ → ℤ) → column < n → nat_abs (f column) ≡ 1 → row_divisor n f ≡ 1
unit_leaves_one n column f within unit =
    let here : row_divisor (suc column) f ≡ 1 = ap (gcd_of (row_divisor column f)) unit ∙ divisor_beside_one (row_divisor column f) in
    let rest : suc column + (n - suc column) ≡ n = omega arith in
    ap (λ k. row_divisor k f) (sym rest) ∙ row_stays_one (suc column) (n - suc column) f here
