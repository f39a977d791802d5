-- The search for the first cell at which a pivot overflows.
use Rattle.std.proofs.Common.{◌≡◌, ◌≢◌, ℕ, zero, suc, ◌<◌, ℤ, cond, nat_eq, Option, Some, None, arith, refl, ◌∙◌, inl, inr}
use Rattle.std.proofs.lemmas.Bool.{cases_eq, eq-eqb, ne_eqb}
use Rattle.linear_program.specs.Pivots.{first_some, in_row, row_overflow, rows_overflow}

-- the search ends at the first row that overflows
pub overflow_found : (w : ℕ) (pivot_row : ℕ → ℤ) (cell : ℕ → ℕ → ℤ) (row column n i j : ℕ) → i < n → rows_overflow w pivot_row cell row column i ≡ None → i ≢ row →
    row_overflow w pivot_row (cell i) column ≡ Some j → rows_overflow w pivot_row cell row column n ≡ Some (i, j)
overflow_found w pivot_row cell row column zero i j l none apart here = absurd (omega arith)
overflow_found w pivot_row cell row column (suc n) i j l none apart here =
    elim (cases_eq i n) [
      | inl same ↦ rw (← same, none, ne_eqb i row apart, here) refl
      | inr other ↦ rw (overflow_found w pivot_row cell row column n i j (omega arith) none apart here) refl
    ]

-- the search goes past the pivot's row, and past a row that doesn't overflow
pub pivot_row_passed : (w : ℕ) (pivot_row : ℕ → ℤ) (cell : ℕ → ℕ → ℤ) (row column i : ℕ) → rows_overflow w pivot_row cell row column i ≡ None → i ≡ row → rows_overflow w pivot_row cell row column (suc i) ≡ None
pivot_row_passed w pivot_row cell row column i none same = rw (none, eq-eqb i row same) refl

pub row_passed : (w : ℕ) (pivot_row : ℕ → ℤ) (cell : ℕ → ℕ → ℤ) (row column i : ℕ) → rows_overflow w pivot_row cell row column i ≡ None → i ≢ row → row_overflow w pivot_row (cell i) column ≡ None →
    rows_overflow w pivot_row cell row column (suc i) ≡ None
row_passed w pivot_row cell row column i none apart here = rw (none, ne_eqb i row apart, here) refl

none_first : {A : Type 0} (o p : Option A) → first_some o p ≡ None → (o ≡ None) × (p ≡ None)
none_first (Some a) p h = cc
none_first None p h = (refl, h)

none_in_row : (i : ℕ) (o : Option ℕ) → in_row i o ≡ None → o ≡ None
none_in_row i (Some j) h = cc
none_in_row i None h = refl

-- where no cell overflows, no row does
pub no_row_overflows : (w : ℕ) (pivot_row : ℕ → ℤ) (cell : ℕ → ℕ → ℤ) (row column n : ℕ) → rows_overflow w pivot_row cell row column n ≡ None → (i : ℕ) → i < n → i ≢ row →
    row_overflow w pivot_row (cell i) column ≡ None
no_row_overflows w pivot_row cell row column zero h i l apart = absurd (omega arith)
no_row_overflows w pivot_row cell row column (suc n) h i l apart =
    let parts = none_first (rows_overflow w pivot_row cell row column n) (in_row n (cond (nat_eq n row) None (row_overflow w pivot_row (cell n) column))) h in
    elim (cases_eq i n) [
      | inl same ↦
          let here = none_in_row n (cond (nat_eq n row) None (row_overflow w pivot_row (cell n) column)) parts.1 in
          let n_apart : n ≢ row = λ e. apart (same ∙ e) in
          rw same (rw (ne_eqb n row n_apart) at here)
      | inr other ↦ no_row_overflows w pivot_row cell row column n parts.0 i (omega arith) apart
    ]
