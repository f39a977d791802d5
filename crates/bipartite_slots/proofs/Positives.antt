-- Where positive cells stand, and how many there are.
use Rattle.std.specs.Prelude.{ℕ, ◌<◌, cond, nat_lt}
use Rattle.bipartite_slots.specs.Sums.{sum_below}

-- all positive cells stand in these rows and columns
pub record IsWithin (size : ℕ) (cells : ℕ → ℕ → ℕ) : Type 0 where
  pub row : (row column : ℕ) → 0 < cells row column → row < size
  pub column : (row column : ℕ) → 0 < cells row column → column < size

-- the number of positive cells
unfoldable pub positives : ℕ → (ℕ → ℕ → ℕ) → ℕ
positives size cells = sum_below size (λ row. sum_below size (λ column. cond (nat_lt 0 (cells row column)) 1 0))
