-- The pivot of a tableau, in whole numbers without bound, with the cell at which it overflows 2^127 - 1.
-- Source: the fraction-free simplex, each row kept without a common divisor.
use Rattle.std.specs.Prelude.{ℕ, zero, suc, ◌+◌, ℤ, pos, ◌-ℤ◌, ◌*ℤ◌, nat_abs, int_div, Bool, false, cond, nat_eq, Option, Some, None, is_none}
use Rattle.ratio_core.specs.Fraction.{gcd_of}
use Rattle.linear_program.specs.Sizes.{fitting_combination}
use Rattle.linear_program.specs.Tableaux.{TableauView, width}

-- the first of two answers
abbrev pub first_some : {A : Type 0} → Option A → Option A → Option A
first_some (Some a) other = Some a
first_some None other = other

-- the least number below n that passes
abbrev pub first_below : ℕ → (ℕ → Bool) → Option ℕ
first_below zero passes = None
first_below (suc n) passes = first_some (first_below n passes) (cond (passes n) (Some n) None)

-- the greatest common divisor of the two cells in the pivot's column
abbrev pub column_divisor : (ℕ → ℤ) → (ℕ → ℤ) → ℕ → ℕ
column_divisor pivot_row row column = gcd_of (nat_abs (pivot_row column)) (nat_abs (row column))

-- by how much a row counts in its combination with the pivot's row
abbrev pub own_multiplier : (ℕ → ℤ) → (ℕ → ℤ) → ℕ → ℤ
own_multiplier pivot_row row column = int_div (pivot_row column) (pos (column_divisor pivot_row row column))

-- by how much the pivot's row counts in it
abbrev pub pivot_multiplier : (ℕ → ℤ) → (ℕ → ℤ) → ℕ → ℤ
pivot_multiplier pivot_row row column = int_div (row column) (pos (column_divisor pivot_row row column))

-- the combination of a row with the pivot's, which is 0 in the pivot's column
abbrev pub combined_row : (ℕ → ℤ) → (ℕ → ℤ) → ℕ → ℕ → ℤ
combined_row pivot_row row column j = own_multiplier pivot_row row column *ℤ row j -ℤ pivot_multiplier pivot_row row column *ℤ pivot_row j

-- the greatest common divisor of the first n numbers
abbrev pub row_divisor : ℕ → (ℕ → ℤ) → ℕ
row_divisor zero f = 0
row_divisor (suc n) f = gcd_of (row_divisor n f) (nat_abs (f n))

-- a row that is 0 in the pivot's column stays
abbrev pub stays : (ℕ → ℤ) → ℕ → Bool
stays row column = nat_eq (nat_abs (row column)) 0

-- a row after the pivot
abbrev pub changed_row : ℕ → (ℕ → ℤ) → (ℕ → ℤ) → ℕ → ℕ → ℤ
changed_row width pivot_row row column j =
    cond (stays row column) (row j)
    (int_div (combined_row pivot_row row column j) (pos (row_divisor width (combined_row pivot_row row column))))

-- the tableau after the pivot
abbrev pub pivoted_tableau : TableauView → ℕ → ℕ → TableauView
pivoted_tableau t row column = record {
  values = t.values;
  constraints = t.constraints;
  cell = λ i. cond (nat_eq i row) (t.cell i) (changed_row (width t) (t.cell row) (t.cell i) column);
  basic = λ i. cond (nat_eq i row) column (t.basic i);
}

-- a cell overflows where a product or the difference does; in the pivot's column none is made
abbrev pub cell_overflows : (ℕ → ℤ) → (ℕ → ℤ) → ℕ → ℕ → Bool
cell_overflows pivot_row row column j =
    cond (nat_eq j column) false (is_none (fitting_combination (own_multiplier pivot_row row column) (row j) (pivot_multiplier pivot_row row column) (pivot_row j)))

-- the first column at which a row overflows
abbrev pub row_overflow : ℕ → (ℕ → ℤ) → (ℕ → ℤ) → ℕ → Option ℕ
row_overflow width pivot_row row column = cond (stays row column) None (first_below width (cell_overflows pivot_row row column))

-- a column in a row, where there is one
abbrev pub in_row : ℕ → Option ℕ → Option (ℕ × ℕ)
in_row i (Some j) = Some (i, j)
in_row i None = None

-- the first cell, by rows below n and then by columns, at which rows overflow in a pivot on a given row
abbrev pub rows_overflow : ℕ → (ℕ → ℤ) → (ℕ → ℕ → ℤ) → ℕ → ℕ → ℕ → Option (ℕ × ℕ)
rows_overflow width pivot_row cell row column zero = None
rows_overflow width pivot_row cell row column (suc i) =
    first_some (rows_overflow width pivot_row cell row column i)
    (in_row i (cond (nat_eq i row) None (row_overflow width pivot_row (cell i) column)))

-- the first cell at which the pivot of a tableau overflows
abbrev pub first_overflow : TableauView → ℕ → ℕ → Option (ℕ × ℕ)
first_overflow t row column = rows_overflow (width t) (t.cell row) t.cell row column (t.constraints + 1)

-- what a pivot makes of a tableau, or the cell at which it overflows
pub data Pivoted : Type 0 where
  tableau : TableauView → Pivoted
  overflow : ℕ → ℕ → Pivoted

-- the tableau, unless there is a place at which the pivot overflows
abbrev pub pivoted_or : TableauView → Option (ℕ × ℕ) → Pivoted
pivoted_or u None = Pivoted.tableau u
pivoted_or u (Some place) = Pivoted.overflow place.0 place.1

-- the pivot on a row and a column
abbrev pub pivoted : TableauView → ℕ → ℕ → Pivoted
pivoted t row column = pivoted_or (pivoted_tableau t row column) (first_overflow t row column)
