-- Linear programmes over whole numbers: the greatest gain of amounts that keep to each row.
use Rattle.std.specs.Prelude.{◌≡◌, ◌≢◌, ℕ, ◌+◌, ◌^◌, ◌<◌, ◌⊎◌, length, map, nat_abs, ℤ, pos, ◌*ℤ◌, List, [], ◌∷◌, All, cond, nat_eq, slice_index_or}
use Rattle.std.specs.List.Sorted.{IsStrictlyIncreasing}
use Rattle.linear_program.specs.Sums.{sum_below}

-- a row: the cells that are not 0, by their columns, and the number that their sum keeps to
pub record RowView : Type 0 where
  pub cells : List (ℕ × ℤ)
  pub rhs : ℤ

-- a programme: the number of columns, the rows, and what each column gains
pub record LpView : Type 0 where
  pub columns : ℕ
  pub rows : List RowView
  pub gain : List ℤ

-- a row's cell in a column, 0 where none stands there
abbrev pub cell_at : List (ℕ × ℤ) → ℕ → ℤ
cell_at [] column = pos 0
cell_at (c ∷ cells) column = cond (nat_eq c.0 column) c.1 (cell_at cells column)

-- a row's number, one without cells beyond the last row
abbrev pub row_at : LpView → ℕ → RowView
row_at p i = slice_index_or p.rows i (record { cells = []; rhs = pos 0 })

-- the gain of a column
abbrev pub gain_at : LpView → ℕ → ℤ
gain_at p j = slice_index_or p.gain j (pos 0)

-- what a row's cells sum to for given amounts in the columns
abbrev pub row_value : ℕ → RowView → (ℕ → ℕ) → ℤ
row_value n row x = sum_below n (λ j. cell_at row.cells j *ℤ pos (x j))

-- what given amounts gain
abbrev pub gain_value : LpView → (ℕ → ℕ) → ℤ
gain_value p x = sum_below p.columns (λ j. gain_at p j *ℤ pos (x j))

-- a row of a programme: its columns exist and ascend, no cell is 0, sizes are at most 2^127 - 1, and its right-hand side is 0 or 1
pub record IsRow (columns : ℕ) (row : RowView) : Type 0 where
  pub exist : All (λ c. c.0 < columns) row.cells
  pub ascend : IsStrictlyIncreasing (map (λ c. c.0) row.cells)
  pub no_zero : All (λ c. c.1 ≢ pos 0) row.cells
  pub small : All (λ c. nat_abs c.1 < 2 ^ 127) row.cells
  pub side : (row.rhs ≡ pos 0) ⊎ (row.rhs ≡ pos 1)

-- a programme: one gain for each column, sizes of at most 2^127 - 1, rows as above, and a tableau whose columns have 32-bit numbers
pub record IsLp (p : LpView) : Type 0 where
  pub rows : All (IsRow p.columns) p.rows
  pub gains : length p.gain ≡ p.columns
  pub small_gains : All (λ g. nat_abs g < 2 ^ 127) p.gain
  pub sizes : p.columns + length p.rows + 2 < 2 ^ 32
