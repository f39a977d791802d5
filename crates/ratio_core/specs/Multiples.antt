-- Least common multiples.
use Rattle.std.specs.Prelude.{◌≡◌, ℕ, ◌*◌, ◌/◌, ◌%◌, ◌≤◌}
use Rattle.ratio_core.specs.Fraction.{gcd_of}

-- a multiple of both numbers, at least 1; no such multiple is less, and each is a multiple of it
pub record IsLeastCommonMultiple (a b multiple : ℕ) : Type 0 where
  pub some : 1 ≤ multiple
  pub of_first : multiple % a ≡ 0
  pub of_second : multiple % b ≡ 0
  pub least : (other : ℕ) → 1 ≤ other → other % a ≡ 0 → other % b ≡ 0 → multiple ≤ other
  pub divides : (other : ℕ) → other % a ≡ 0 → other % b ≡ 0 → other % multiple ≡ 0

-- the least common multiple, by the greatest common divisor
abbrev pub lcm_of : ℕ → ℕ → ℕ
lcm_of a b = a / gcd_of a b * b
