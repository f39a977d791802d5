-- Lists that are written as a pivot says are the tableau after the pivot.
use Rattle.std.proofs.Common.{◌≡◌, ◌≢◌, ℕ, ◌+◌, ◌<◌, ℤ, pos, None, length, slice_index_or, slice_set, arith, refl, sym, ◌∙◌, ap, inl, inr}
use Rattle.std.proofs.lemmas.Bool.{cases_eq, cases_lt, eq-eqb, ne_eqb}
use Rattle.linear_program.specs.Pivots.{changed_row, rows_overflow, pivoted_tableau, Pivoted, pivoted_or, pivoted}
use Rattle.linear_program.proofs.Changes.{same_tableau}
use Rattle.dense_tableau.specs.Flat.{FlatView, IsFlat, cell_of, flat_width, flat_tableau}
use Rattle.dense_tableau.proofs.Flat.{no_row, basic_set}

-- the rows after a pivot, in terms of those before
pub record ArePivoted (f g : FlatView) (row column : ℕ) : Type 0 where
  pub values : g.values ≡ f.values
  pub constraints : g.constraints ≡ f.constraints
  pub fits : rows_overflow (flat_width f) (cell_of (flat_width f) f.cells row) (cell_of (flat_width f) f.cells) row column (f.constraints + 1) ≡ None
  pub size : length g.cells ≡ length f.cells
  pub kept : (j : ℕ) → cell_of (flat_width f) g.cells row j ≡ cell_of (flat_width f) f.cells row j
  pub changed : (i j : ℕ) → i < f.constraints + 1 → i ≢ row →
      cell_of (flat_width f) g.cells i j ≡ changed_row (flat_width f) (cell_of (flat_width f) f.cells row) (cell_of (flat_width f) f.cells i) column j
  pub basics : g.basics ≡ slice_set f.basics row column

-- a row beyond the last stays
beyond_stays : (w : ℕ) (pivot_row row : ℕ → ℤ) (column j : ℕ) → row column ≡ pos 0 → changed_row w pivot_row row column j ≡ row j
beyond_stays w pivot_row row column j none = rw none refl

pub pivoted_lists : (f g : FlatView) (row column : ℕ) → IsFlat f → row < f.constraints → ArePivoted f g row column → pivoted (flat_tableau f) row column ≡ Pivoted.tableau (flat_tableau g)
pivoted_lists f g row column flat within p =
    let w = flat_width f in
    let same_width : flat_width g ≡ w = let a = p.values in let b = p.constraints in omega arith in
    let inside : row < length f.basics = let b = flat.basics_whole in omega arith in
    let cells : (i j : ℕ) → (pivoted_tableau (flat_tableau f) row column).cell i j ≡ cell_of (flat_width g) g.cells i j =
    λ i j. (elim (cases_eq i row) [
      | inl same ↦ rw (eq-eqb i row same, same) (sym (p.kept j))
      | inr apart ↦
          rw (ne_eqb i row apart)
          (elim (cases_lt i (f.constraints + 1)) [
            | inl less ↦ sym (p.changed i j less apart)
            | inr past ↦
                beyond_stays w (cell_of w f.cells row) (cell_of w f.cells i) column j (no_row w (f.constraints + 1) f.cells i column flat.cells_whole past)
                ∙ no_row w (f.constraints + 1) f.cells i j flat.cells_whole past ∙ sym (no_row w (f.constraints + 1) g.cells i j (p.size ∙ flat.cells_whole) past)
          ])
    ]) ∙ ap (λ k. cell_of k g.cells i j) (sym same_width) in
    let basics : (i : ℕ) → (pivoted_tableau (flat_tableau f) row column).basic i ≡ slice_index_or g.basics i 0 =
    λ i. basic_set f.basics row column i inside ∙ ap (λ b. slice_index_or b i 0) (sym p.basics) in
    ap (pivoted_or (pivoted_tableau (flat_tableau f) row column)) p.fits
    ∙ ap Pivoted.tableau (same_tableau (pivoted_tableau (flat_tableau f) row column) (flat_tableau g) (sym p.values) (sym p.constraints) cells basics)
