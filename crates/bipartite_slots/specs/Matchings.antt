-- Perfect matchings of the rows with the columns of a square matrix, over its positive cells.
use Rattle.std.specs.Prelude.{◌≡◌, ℕ, ◌<◌, List, length, slice_index}

-- each row has a column of its own, and the cell there is positive
pub record IsPerfectMatching (size : ℕ) (cells : ℕ → ℕ → ℕ) (columns : List ℕ) : Type 0 where
  pub one_a_row : length columns ≡ size
  pub inside : (row : ℕ) → row < size → slice_index columns row < size
  pub positive : (row : ℕ) → row < size → 0 < cells row (slice_index columns row)
  pub differ : (row other : ℕ) → row < size → other < size → slice_index columns row ≡ slice_index columns other → row ≡ other

-- the first list comes before the second: it has a lesser column at the first row at which they differ
abbrev pub ComesBefore : ℕ → List ℕ → List ℕ → Type 0
ComesBefore size first second =
    (row : ℕ) × (row < size) × ((earlier : ℕ) → earlier < row → slice_index first earlier ≡ slice_index second earlier) ×
    (slice_index first row < slice_index second row)

-- a perfect matching, and no other comes before it
pub record IsFirstMatching (size : ℕ) (cells : ℕ → ℕ → ℕ) (columns : List ℕ) : Type 0 where
  pub perfect : IsPerfectMatching size cells columns
  pub first : (other : List ℕ) → IsPerfectMatching size cells other → ComesBefore size other columns → ⊥
