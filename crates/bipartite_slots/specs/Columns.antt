-- For each row of a matrix, the columns of its positive cells.
use Rattle.std.specs.Prelude.{◌≡◌, ℕ, ◌<◌, List, [], length, slice_index_or, All, Contains}
use Rattle.std.specs.List.Sorted.{IsStrictlyIncreasing}

-- the columns of one row
abbrev pub row_of : List (List ℕ) → ℕ → List ℕ
row_of rows row = slice_index_or rows row []

-- the columns of one row: they exist and ascend, and among them are those of the row's positive cells
pub record HasPositives (size : ℕ) (cells : ℕ → ℕ) (columns : List ℕ) : Type 0 where
  pub inside : All (λ column. column < size) columns
  pub ascending : IsStrictlyIncreasing columns
  pub listed : (column : ℕ) → 0 < cells column → Contains columns column

-- for each row of a matrix, its columns
pub record AreListed (rows : List (List ℕ)) (size : ℕ) (cells : ℕ → ℕ → ℕ) : Type 0 where
  pub as_many : length rows ≡ size
  pub each : (row : ℕ) → row < size → HasPositives size (cells row) (row_of rows row)
