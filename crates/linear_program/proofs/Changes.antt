-- A row that is combined and divided is the row after the pivot.
use Rattle.std.proofs.Common.{◌≡◌, ◌≢◌, ℕ, zero, suc, ◌/◌, ◌<◌, ◌≤◌, ℤ, pos, negsuc, neg_ℤ, nat_abs, true, false, cond, Option, Some, None, IsSome, is_none, arith, refl, sym, ◌∙◌, ap, inl, inr}
use Rattle.std.specs.Prelude.{int_div}
use Prim.Native.Nat.{◌∣◌}
use Rattle.std.proofs.Math.IntN.{*ℤ-zero}
use Rattle.std.proofs.Math.Nat.{eq-zero_of_zero-dvd}
use Rattle.std.proofs.lemmas.Int.{ints}
use Rattle.std.proofs.lemmas.Bool.{cases_eq, eq-eqb, ne_eqb}
use Rattle.linear_program.proofs.Pivots.{multipliers_meet, row_divisor_divides, size_zero}
use Rattle.linear_program.proofs.Searches.{none_passes, nothing_found}
use Rattle.linear_program.specs.Sizes.{fitting_combination}
use Rattle.linear_program.specs.Tableaux.{TableauView}
use Rattle.linear_program.specs.Pivots.{own_multiplier, pivot_multiplier, combined_row, row_divisor, stays, changed_row, first_below, cell_overflows, row_overflow}

-- a row with a number in the pivot's column changes
pub row_changes : (row : ℕ → ℤ) (column : ℕ) → row column ≢ pos 0 → stays row column ≡ false
row_changes row column some = ne_eqb (nat_abs (row column)) 0 (λ e. some (size_zero _ e))

-- where each combination fits, the row doesn't overflow
pub fits_no_overflow : (w : ℕ) (pivot_row row : ℕ → ℤ) (column : ℕ) → stays row column ≡ false →
    ((j : ℕ) → j < w → IsSome (fitting_combination (own_multiplier pivot_row row column) (row j) (pivot_multiplier pivot_row row column) (pivot_row j))) →
    row_overflow w pivot_row row column ≡ None
fits_no_overflow w pivot_row row column changes fits =
    rw changes
    (nothing_found w (cell_overflows pivot_row row column)
    (λ j l. elim (cases_eq j column) [
      | inl same ↦ rw (eq-eqb j column same) refl
      | inr apart ↦ rw (ne_eqb j column apart) (none_not (fitting_combination (own_multiplier pivot_row row column) (row j) (pivot_multiplier pivot_row row column) (pivot_row j)) (fits j l))
    ]))
  where
    none_not : (o : Option ℤ) → IsSome o → is_none o ≡ false
    none_not (Some z) h = refl
    none_not None h = cc

-- where the row doesn't overflow, each combination fits
pub no_overflow_fits : (w : ℕ) (pivot_row row : ℕ → ℤ) (column : ℕ) → stays row column ≡ false → row_overflow w pivot_row row column ≡ None →
    (j : ℕ) → j < w → j ≢ column → IsSome (fitting_combination (own_multiplier pivot_row row column) (row j) (pivot_multiplier pivot_row row column) (pivot_row j))
no_overflow_fits w pivot_row row column changes none j within apart =
    let first : first_below w (cell_overflows pivot_row row column) ≡ None = rw changes at none in
    let passes = none_passes w (cell_overflows pivot_row row column) first j within in
    some_when _ (rw (ne_eqb j column apart) at passes)
  where
    some_when : (o : Option ℤ) → is_none o ≡ false → IsSome o
    some_when (Some z) h = refl
    some_when None h = cc

-- the divisor of equal rows
pub same_divisor : (n : ℕ) (f g : ℕ → ℤ) → ((j : ℕ) → j < n → f j ≡ g j) → row_divisor n f ≡ row_divisor n g
same_divisor zero f g h = refl
same_divisor (suc n) f g h = rw (same_divisor n f g (λ j l. h j (omega arith)), h n (omega arith)) refl

-- a division by a divisor of 0 or 1 changes nothing
divided_by_one : (z : ℤ) → int_div z (pos 1) ≡ z
divided_by_one (pos n) = ap pos (let e : n / 1 ≡ n = omega arith in e)
divided_by_one (negsuc n) = ap (λ k. neg_ℤ (pos k)) (let e : suc n / 1 ≡ suc n = omega arith in e)

pub small_divisor : (n : ℕ) (f : ℕ → ℤ) (j d : ℕ) → j < n → d ≡ row_divisor n f → d ≤ 1 → f j ≡ int_div (f j) (pos d)
small_divisor n f j zero l same small =
    let divides : 0 ∣ nat_abs (f j) = rw (← same) at (row_divisor_divides n f j l) in
    rw (size_zero (f j) (eq-zero_of_zero-dvd divides)) refl
small_divisor n f j (suc zero) l same small = sym (divided_by_one (f j))
small_divisor n f j (suc (suc d)) l same small = absurd (omega arith)

-- a row that is 0 beyond its columns stays so
divided_zero : (d : ℕ) → int_div (pos 0) (pos d) ≡ pos 0
divided_zero d = ap pos (let e : 0 / d ≡ 0 = omega arith in e)

pub changed_beyond : (w : ℕ) (pivot_row row : ℕ → ℤ) (column j : ℕ) → pivot_row j ≡ pos 0 → row j ≡ pos 0 → changed_row w pivot_row row column j ≡ pos 0
changed_beyond w pivot_row row column j none_pivot none_row =
    elim (stays row column) as (λ b. cond b (row j) (int_div (combined_row pivot_row row column j) (pos (row_divisor w (combined_row pivot_row row column)))) ≡ pos 0) [
      | true ↦ none_row
      | false ↦
          let combined : combined_row pivot_row row column j ≡ pos 0 = rw (none_pivot, none_row, *ℤ-zero (own_multiplier pivot_row row column), *ℤ-zero (pivot_multiplier pivot_row row column)) refl in
          ap (λ z. int_div z (pos (row_divisor w (combined_row pivot_row row column)))) combined ∙ divided_zero (row_divisor w (combined_row pivot_row row column))
    ]

-- the combination in the pivot's column
pub combined_column : (pivot_row row : ℕ → ℤ) (column : ℕ) → combined_row pivot_row row column column ≡ pos 0
combined_column pivot_row row column = let e = multipliers_meet pivot_row row column in omega (arith, ints, e)

-- a row that was made the combination and then divided
pub changed_is : (w : ℕ) (pivot_row row made : ℕ → ℤ) (column j : ℕ) → stays row column ≡ false → j < w → ((k : ℕ) → k < w → made k ≡ combined_row pivot_row row column k) →
    int_div (made j) (pos (row_divisor w made)) ≡ changed_row w pivot_row row column j
changed_is w pivot_row row made column j changes within same =
    rw (changes, same_divisor w made (combined_row pivot_row row column) same, same j within) refl

-- two tableaux that agree everywhere
pub same_tableau : (t u : TableauView) → t.values ≡ u.values → t.constraints ≡ u.constraints → ((i j : ℕ) → t.cell i j ≡ u.cell i j) → ((i : ℕ) → t.basic i ≡ u.basic i) → t ≡ u
same_tableau t u values constraints cells basics = λ i. record { values = values i; constraints = constraints i; cell = λ a b. cells a b i; basic = λ a. basics a i }
