-- Finite sums of whole numbers.
use Rattle.std.specs.Prelude.{ℕ, zero, suc, ℤ, pos, ◌+ℤ◌}

-- the sum of the terms 0 to n - 1
abbrev pub sum_below : ℕ → (ℕ → ℤ) → ℤ
sum_below zero term = pos 0
sum_below (suc n) term = sum_below n term +ℤ term n
