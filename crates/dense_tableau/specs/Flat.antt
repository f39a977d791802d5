-- A tableau whose rows stand in one list, one after the other.
use Rattle.std.specs.Prelude.{◌≡◌, ◌≢◌, ℕ, ◌+◌, ◌*◌, ◌<◌, ◌^◌, ℤ, pos, cond, nat_lt, List, length, slice_index, slice_index_or}
use Rattle.linear_program.specs.Tableaux.{TableauView}

-- a row's number in a column, 0 beyond its end
abbrev pub entry : List ℤ → ℕ → ℤ
entry row j = slice_index_or row j (pos 0)

-- the number at a row and a column, 0 beyond the last column
abbrev pub cell_of : ℕ → List ℤ → ℕ → ℕ → ℤ
cell_of width cells i j = cond (nat_lt j width) (entry cells (i * width + j)) (pos 0)

-- ascending columns of a row, among them all in which it isn't 0
pub record AreColumns (row : List ℤ) (columns : List ℕ) : Type 0 where
  pub inside : (k : ℕ) → k < length columns → slice_index columns k < length row
  pub rising : (k l : ℕ) → k < l → l < length columns → slice_index columns k < slice_index columns l
  pub all : (j : ℕ) → j < length row → ((k : ℕ) → k < length columns → slice_index columns k ≢ j) → entry row j ≡ pos 0

-- the sizes of a tableau, its cells row after row, each row's basic column, and room for the columns of a row
pub record FlatView : Type 0 where
  pub values : ℕ
  pub constraints : ℕ
  pub cells : List ℤ
  pub basics : List ℕ
  pub columns : List ℕ

-- the number of columns
abbrev pub flat_width : FlatView → ℕ
flat_width f = f.values + f.constraints + 2

-- the tableau that the lists are
abbrev pub flat_tableau : FlatView → TableauView
flat_tableau f = record {
  values = f.values;
  constraints = f.constraints;
  cell = cell_of (flat_width f) f.cells;
  basic = λ i. slice_index_or f.basics i 0;
}

-- the lists have every row, the columns have 32-bit numbers, and there is room for all of them
pub record IsFlat (f : FlatView) : Type 0 where
  pub sizes : flat_width f < 2 ^ 32
  pub cells_whole : length f.cells ≡ (f.constraints + 1) * flat_width f
  pub basics_whole : length f.basics ≡ f.constraints + 1
  pub columns_whole : length f.columns ≡ flat_width f
