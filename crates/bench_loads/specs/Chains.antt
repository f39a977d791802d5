-- The rows of a chain's programme, as far as its bound rests on them.
use Rattle.std.specs.Prelude.{ℕ, zero, suc, ◌*◌, ◌<◌, ℤ, pos, ◌≤ℤ◌, List, [], ◌∷◌, ◌++◌, All, length, cond, nat_lt}
use Rattle.linear_program.specs.Programmes.{RowView, IsRow}
use Rattle.linear_program.specs.Duality.{priced_column}

-- prices of 1 for the workers' times, which come first, and of 0 for the other rows
abbrev pub time_prices : ℕ → ℕ → List ℤ
time_prices workers zero = []
time_prices workers (suc n) = time_prices workers n ++ cond (nat_lt n workers) (pos 1) (pos 0) ∷ []

-- rows of a programme, whose prices cover a gain of 1 for each worker that has its time among them
pub record IsChain (workers : ℕ) (rows : List RowView) : Type 0 where
  pub kept : All (IsRow (2 * workers)) rows
  pub covered : (j : ℕ) → j < workers → j < length rows → pos 1 ≤ℤ priced_column rows (time_prices workers (length rows)) j
  pub not_negative : (j : ℕ) → pos 0 ≤ℤ priced_column rows (time_prices workers (length rows)) j
