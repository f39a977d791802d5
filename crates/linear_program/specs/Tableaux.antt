-- Tableaux of whole numbers with a basic column for each row, and what a pivot keeps of them.
use Rattle.std.specs.Prelude.{◌≡◌, ◌≢◌, ℕ, ◌+◌, ◌<◌, ◌≤◌, ℤ, pos, ◌-ℤ◌, ◌*ℤ◌, ◌≤ℤ◌, ◌<ℤ◌}
use Rattle.linear_program.specs.Sums.{sum_below}

-- a tableau for a programme of `values` columns and `constraints` rows: the last row is the objective's,
-- and behind the columns of the values and the slacks stand the objective's column and the right-hand sides
pub record TableauView : Type 0 where
  pub values : ℕ
  pub constraints : ℕ
  pub cell : ℕ → ℕ → ℤ
  pub basic : ℕ → ℕ

-- the objective's column, behind those of the values and the slacks
abbrev pub objective_column : TableauView → ℕ
objective_column t = t.values + t.constraints

-- the column of the right-hand sides
abbrev pub side_column : TableauView → ℕ
side_column t = t.values + t.constraints + 1

-- the number of columns
abbrev pub width : TableauView → ℕ
width t = t.values + t.constraints + 2

-- the sum of a row's cells times the numbers of a vector
abbrev pub row_sum : TableauView → ℕ → (ℕ → ℤ) → ℤ
row_sum t row vector = sum_below (width t) (λ j. t.cell row j *ℤ vector j)

-- a vector on which each row has the sum 0
abbrev pub Solves : TableauView → (ℕ → ℤ) → Type 0
Solves t vector = (row : ℕ) → row ≤ t.constraints → row_sum t row vector ≡ pos 0

-- two tableaux have the same solutions
abbrev pub SameSolutions : TableauView → TableauView → Type 0
SameSolutions t u = (vector : ℕ → ℤ) → (Solves t vector → Solves u vector) × (Solves u vector → Solves t vector)

-- a row after a pivot: a multiple of the row above 0, less a multiple of the pivot's row, over a number above 0, and 0 in the pivot's column
pub record IsReduced (width : ℕ) (pivot_row old new : ℕ → ℤ) (column : ℕ) : Type 0 where
  pub own : ℤ
  pub pivot : ℤ
  pub divisor : ℤ
  pub own_positive : pos 0 <ℤ own
  pub divisor_positive : pos 0 <ℤ divisor
  pub meets : own *ℤ old column ≡ pivot *ℤ pivot_row column
  pub cells : (j : ℕ) → j < width → divisor *ℤ new j ≡ own *ℤ old j -ℤ pivot *ℤ pivot_row j

-- `u` is `t` with the column made basic in the row
pub record IsPivoted (t u : TableauView) (row column : ℕ) : Type 0 where
  pub same_values : u.values ≡ t.values
  pub same_constraints : u.constraints ≡ t.constraints
  pub kept : (j : ℕ) → j < width t → u.cell row j ≡ t.cell row j
  pub reduced : (i : ℕ) → i ≢ row → IsReduced (width t) (t.cell row) (t.cell i) (u.cell i) column
  pub entered : u.basic row ≡ column
  pub stayed : (i : ℕ) → i ≢ row → u.basic i ≡ t.basic i

-- what every tableau of a run keeps: each row has its own basic column, in which it is positive and every other row is 0;
-- the objective's row keeps the objective's column; no right-hand side is below 0
pub record IsCanonical (t : TableauView) : Type 0 where
  pub last_basic : t.basic t.constraints ≡ objective_column t
  pub basic_within : (i : ℕ) → i < t.constraints → t.basic i < objective_column t
  pub own_positive : (i : ℕ) → i ≤ t.constraints → pos 0 <ℤ t.cell i (t.basic i)
  pub alone : (i k : ℕ) → i ≤ t.constraints → k ≤ t.constraints → k ≢ i → t.cell k (t.basic i) ≡ pos 0
  pub sides : (i : ℕ) → i < t.constraints → pos 0 ≤ℤ t.cell i (side_column t)

-- `t` comes from the tableau `s`: each row is the combination of the rows of `s` with its own cells behind the values as factors,
-- and the solutions are those of `s`
pub record IsDerived (s t : TableauView) : Type 0 where
  pub same_values : t.values ≡ s.values
  pub same_constraints : t.constraints ≡ s.constraints
  pub combined : (i j : ℕ) → i ≤ t.constraints → j < width t →
      t.cell i j ≡ sum_below (t.constraints + 1) (λ k. t.cell i (t.values + k) *ℤ s.cell k j)
  pub solutions : SameSolutions s t

-- a row that may leave for a column: of all rows with a positive cell there its ratio of right-hand side to cell is least
pub record HasLeastRatio (t : TableauView) (column row : ℕ) : Type 0 where
  pub within : row < t.constraints
  pub positive : pos 0 <ℤ t.cell row column
  pub least : (i : ℕ) → i < t.constraints → pos 0 <ℤ t.cell i column →
      (t.cell row (side_column t) *ℤ t.cell i column) ≤ℤ (t.cell i (side_column t) *ℤ t.cell row column)
