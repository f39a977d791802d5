-- Feasible points, and prices that bound what they gain.
-- Source: linear programming duality, in whole numbers over a denominator and a scale.
use Rattle.std.specs.Prelude.{◌≡◌, ℕ, ◌<◌, length, ℤ, pos, ◌+ℤ◌, ◌*ℤ◌, ◌≤ℤ◌, List, [], ◌∷◌, All}
use Rattle.linear_program.specs.Programmes.{RowView, LpView, cell_at, gain_at, row_value, gain_value}

-- the amounts x over the denominator d keep to each row
abbrev pub IsFeasible : LpView → (ℕ → ℕ) → ℕ → Type 0
IsFeasible p x d = All (λ row. row_value p.columns row x ≤ℤ (row.rhs *ℤ pos d)) p.rows

-- what the cells of a column cost, row by row: price times cell
abbrev pub priced_column : List RowView → List ℤ → ℕ → ℤ
priced_column [] prices j = pos 0
priced_column (row ∷ rows) [] j = pos 0
priced_column (row ∷ rows) (price ∷ prices) j = price *ℤ cell_at row.cells j +ℤ priced_column rows prices j

-- what the right-hand sides cost, row by row: price times side
abbrev pub priced_sides : List RowView → List ℤ → ℤ
priced_sides [] prices = pos 0
priced_sides (row ∷ rows) [] = pos 0
priced_sides (row ∷ rows) (price ∷ prices) = price *ℤ row.rhs +ℤ priced_sides rows prices

-- prices over a scale of at least 1: one for each row, none below 0, and each column costs at least the scale times its gain
pub record IsDualFeasible (p : LpView) (prices : List ℤ) (scale : ℤ) : Type 0 where
  pub some_scale : pos 1 ≤ℤ scale
  pub one_each : length prices ≡ length p.rows
  pub not_negative : All (λ price. pos 0 ≤ℤ price) prices
  pub covers : (j : ℕ) → j < p.columns → (scale *ℤ gain_at p j) ≤ℤ priced_column p.rows prices j

-- weak duality: no feasible point gains more than dual-feasible prices make of the right-hand sides
abbrev pub WeakDuality : LpView → Type 0
WeakDuality p =
    (x : ℕ → ℕ) (d : ℕ) (prices : List ℤ) (scale : ℤ) → IsFeasible p x d → IsDualFeasible p prices scale →
    (scale *ℤ gain_value p x) ≤ℤ (priced_sides p.rows prices *ℤ pos d)

-- a programme is bounded: dual-feasible prices exist
pub record IsBounded (p : LpView) : Type 0 where
  pub prices : List ℤ
  pub scale : ℤ
  pub bound : IsDualFeasible p prices scale
