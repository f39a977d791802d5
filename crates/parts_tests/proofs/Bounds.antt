-- The programmes of the tests are bounded.
use Rattle.std.proofs.Common.{rules, ◌≡◌, ℕ, zero, suc, ◌+◌, ◌-◌, ◌<◌, ◌≤◌, ◌^◌, ℤ, pos, ◌≤ℤ◌, ◌*ℤ◌, List, [], ◌∷◌, All, arith, refl}
use Rattle.std.proofs.lemmas.Int.{ints}
use Rattle.std.proofs.lemmas.List.Elements.{All-from_get_or}
use Rattle.linear_program.specs.Programmes.{LpView, gain_at}
use Rattle.linear_program.specs.Duality.{priced_column, IsDualFeasible, IsBounded}

-- 2 x <= 1, at most x
abbrev pub one_row : LpView
one_row = record { columns = 1; rows = record { cells = (0, pos 2) ∷ []; rhs = pos 1 } ∷ []; gain = pos 1 ∷ [] }

pub one_row_bounded : IsBounded one_row
one_row_bounded = record {
  prices = pos 1 ∷ [];
  scale = pos 1;
  bound = record {
    some_scale = omega (arith, ints);
    one_each = refl;
    not_negative = signs;
    covers = covers;
  };
}
  where
    signs : All (λ price. pos 0 ≤ℤ price) (pos 1 ∷ [])
    signs = search rules

    covers : (j : ℕ) → j < 1 → (pos 1 *ℤ gain_at one_row j) ≤ℤ priced_column one_row.rows (pos 1 ∷ []) j
    covers zero l = omega (arith, ints)
    covers (suc j) l = absurd (omega arith)

-- 2^100 x + y <= 1 and (2^100 - 1) x + 2^100 y <= 1, at most x + y
abbrev pub long_rows : LpView
long_rows = record {
  columns = 2;
  rows = record { cells = (0, pos (2 ^ 100)) ∷ ((1, pos 1) ∷ []); rhs = pos 1 } ∷ (record { cells = (0, pos (2 ^ 100 - 1)) ∷ ((1, pos (2 ^ 100)) ∷ []); rhs = pos 1 } ∷ []);
  gain = pos 1 ∷ (pos 1 ∷ []);
}

pub long_rows_bounded : IsBounded long_rows
long_rows_bounded = record {
  prices = pos 1 ∷ (pos 0 ∷ []);
  scale = pos 1;
  bound = record {
    some_scale = omega (arith, ints);
    one_each = refl;
    not_negative = signs;
    covers = covers;
  };
}
  where
    signs : All (λ price. pos 0 ≤ℤ price) (pos 1 ∷ (pos 0 ∷ []))
    signs = search rules

    covers : (j : ℕ) → j < 2 → (pos 1 *ℤ gain_at long_rows j) ≤ℤ priced_column long_rows.rows (pos 1 ∷ (pos 0 ∷ [])) j
    covers zero l = omega (arith, ints)
    covers (suc zero) l = omega (arith, ints)
    covers (suc (suc j)) l = absurd (omega arith)
