-- The pivot of a tableau makes the column basic in the row.
use Rattle.std.proofs.Common.{◌≡◌, ℕ, zero, suc, ◌*◌, ◌/◌, ◌<◌, ℤ, pos, negsuc, neg_ℤ, nat_abs, ◌*ℤ◌, ◌<ℤ◌, false, Option, Some, None, arith, refl, sym, ◌∙◌, ap, inl, inr, ◌⊎◌}
use Rattle.std.specs.Prelude.{int_div}
use Prim.Native.Nat.{◌∣◌}
use Rattle.std.proofs.Math.IntN.{*ℤ-zero, *ℤ_comm}
use Rattle.std.proofs.Math.Nat.{mul-div_cancel', eq-zero_of_zero-dvd, dvd_trans}
use Rattle.std.proofs.lemmas.Int.{ints}
use Rattle.std.proofs.lemmas.Bool.{cases_eq, eq-eqb, ne_eqb}
use Rattle.ratio_core.specs.Fraction.{gcd_of}
use Rattle.ratio_core.proofs.GcdLemmas.{gcd_some, gcd_divides}
use Rattle.linear_program.proofs.Integers.{times_product, cancel_positive}
use Rattle.linear_program.specs.Tableaux.{TableauView, width, IsReduced, IsPivoted, SameSolutions}
use Rattle.linear_program.specs.Pivots.{column_divisor, own_multiplier, pivot_multiplier, combined_row, row_divisor, stays, changed_row, pivoted_tableau, Pivoted, pivoted_or, pivoted, first_overflow}
use Rattle.linear_program.proofs.Solutions.{pivot_keeps_solutions}

times_negated : (d q : ℕ) → pos d *ℤ neg_ℤ (pos q) ≡ neg_ℤ (pos (d * q))
times_negated d zero = rw (*ℤ-zero (pos d)) refl
times_negated d (suc q) = refl

-- a number over a divisor of it, times the divisor
pub exact_division : (z : ℤ) (d : ℕ) → d ∣ nat_abs z → pos d *ℤ int_div z (pos d) ≡ z
exact_division (pos n) d h = ap pos (mul-div_cancel' d h)
exact_division (negsuc n) d h = times_negated d (suc n / d) ∙ ap (λ k. neg_ℤ (pos k)) (mul-div_cancel' d h)

-- the divisor of a row divides each of its numbers
pub row_divisor_divides : (n : ℕ) (f : ℕ → ℤ) (j : ℕ) → j < n → row_divisor n f ∣ nat_abs (f j)
row_divisor_divides zero f j l = absurd (omega arith)
row_divisor_divides (suc n) f j l =
    let each = gcd_divides (row_divisor n f) (nat_abs (f n)) in
    elim (cases_eq j n) [
      | inl same ↦ rw same each.1
      | inr other ↦ dvd_trans (gcd_of (row_divisor n f) (nat_abs (f n))) each.0 (row_divisor_divides n f j (omega arith))
    ]

zero_or_more : (n : ℕ) → (n ≡ 0) ⊎ (0 < n)
zero_or_more zero = inl refl
zero_or_more (suc n) = inr (omega arith)

pub size_zero : (z : ℤ) → nat_abs z ≡ 0 → z ≡ pos 0
size_zero (pos n) h = ap pos h
size_zero (negsuc n) h = absurd (omega arith)

pub multipliers_meet : (pivot_row row : ℕ → ℤ) (column : ℕ) → own_multiplier pivot_row row column *ℤ row column ≡ pivot_multiplier pivot_row row column *ℤ pivot_row column
multipliers_meet pivot_row row column =
    let g = column_divisor pivot_row row column in
    let each = gcd_divides (nat_abs (pivot_row column)) (nat_abs (row column)) in
    let own = own_multiplier pivot_row row column in
    let pivot = pivot_multiplier pivot_row row column in
    let pivot_whole : pos g *ℤ own ≡ pivot_row column = exact_division (pivot_row column) g each.0 in
    let row_whole : pos g *ℤ pivot ≡ row column = exact_division (row column) g each.1 in
    ap (λ z. own *ℤ z) (sym row_whole) ∙ sym (times_product own (pos g) pivot) ∙ ap (λ z. z *ℤ pivot) (*ℤ_comm own (pos g) ∙ pivot_whole) ∙ *ℤ_comm (pivot_row column) pivot

size_positive : (z : ℤ) → pos 0 <ℤ z → 0 < nat_abs z
size_positive (pos n) h = omega (arith, ints)
size_positive (negsuc n) h = absurd (omega (arith, ints))

pub own_multiplier_positive : (pivot_row row : ℕ → ℤ) (column : ℕ) → pos 0 <ℤ pivot_row column → pos 0 <ℤ own_multiplier pivot_row row column
own_multiplier_positive pivot_row row column positive =
    let g = column_divisor pivot_row row column in
    let some : 0 < nat_abs (pivot_row column) = size_positive (pivot_row column) positive in
    let some_g : 0 < g = gcd_some (nat_abs (pivot_row column)) (nat_abs (row column)) (omega arith) in
    let each = gcd_divides (nat_abs (pivot_row column)) (nat_abs (row column)) in
    cancel_positive (pos g) (own_multiplier pivot_row row column) (omega (arith, ints)) (rw (exact_division (pivot_row column) g each.0) positive)

-- a row that changes is reduced
reduced_change : (width : ℕ) (pivot_row row : ℕ → ℤ) (column : ℕ) → pos 0 <ℤ pivot_row column → stays row column ≡ false →
    IsReduced width pivot_row row (changed_row width pivot_row row column) column
reduced_change width pivot_row row column positive changes =
    let f = combined_row pivot_row row column in
    let d = row_divisor width f in
    elim (zero_or_more d) [
      | inl none ↦ record {
        own = own_multiplier pivot_row row column;
        pivot = pivot_multiplier pivot_row row column;
        divisor = pos 1;
        own_positive = own_multiplier_positive pivot_row row column positive;
        divisor_positive = omega (arith, ints);
        meets = multipliers_meet pivot_row row column;
        cells = λ j l.
            let divides : 0 ∣ nat_abs (f j) = rw none at (row_divisor_divides width f j l) in
            let zero_cell : f j ≡ pos 0 = size_zero (f j) (eq-zero_of_zero-dvd divides) in
            rw (changes, none, zero_cell) refl;
      }
      | inr some ↦ record {
        own = own_multiplier pivot_row row column;
        pivot = pivot_multiplier pivot_row row column;
        divisor = pos d;
        own_positive = own_multiplier_positive pivot_row row column positive;
        divisor_positive = omega (arith, ints);
        meets = multipliers_meet pivot_row row column;
        cells = λ j l. rw changes (exact_division (f j) d (row_divisor_divides width f j l));
      }
    ]

-- a row that is 0 in the pivot's column stays
reduced_stay : (width : ℕ) (pivot_row row : ℕ → ℤ) (column : ℕ) → nat_abs (row column) ≡ 0 →
    IsReduced width pivot_row row (changed_row width pivot_row row column) column
reduced_stay width pivot_row row column none = record {
  own = pos 1;
  pivot = pos 0;
  divisor = pos 1;
  own_positive = omega (arith, ints);
  divisor_positive = omega (arith, ints);
  meets = rw (size_zero (row column) none) (omega (arith, ints));
  cells = λ j l. rw (eq-eqb (nat_abs (row column)) 0 none) (omega (arith, ints));
}

pub row_is_reduced : (width : ℕ) (pivot_row row : ℕ → ℤ) (column : ℕ) → pos 0 <ℤ pivot_row column →
    IsReduced width pivot_row row (changed_row width pivot_row row column) column
row_is_reduced width pivot_row row column positive =
    elim (cases_eq (nat_abs (row column)) 0) [
      | inl none ↦ reduced_stay width pivot_row row column none
      | inr some ↦ reduced_change width pivot_row row column positive (ne_eqb (nat_abs (row column)) 0 some)
    ]

pub pivoted_tableau_is : (t : TableauView) (row column : ℕ) → pos 0 <ℤ t.cell row column → IsPivoted t (pivoted_tableau t row column) row column
pivoted_tableau_is t row column positive = record {
  same_values = refl;
  same_constraints = refl;
  kept = λ j l. rw (eq-eqb row row refl) refl;
  reduced = λ i other. rw (ne_eqb i row other) (row_is_reduced (width t) (t.cell row) (t.cell i) column positive);
  entered = rw (eq-eqb row row refl) refl;
  stayed = λ i other. rw (ne_eqb i row other) refl;
}

pivoted_tableau_from : (u v : TableauView) (o : Option (ℕ × ℕ)) → pivoted_or u o ≡ Pivoted.tableau v → u ≡ v
pivoted_tableau_from u v None h = cc
pivoted_tableau_from u v (Some place) h = cc

pub pivoted_is : (t u : TableauView) (row column : ℕ) → pos 0 <ℤ t.cell row column → pivoted t row column ≡ Pivoted.tableau u → IsPivoted t u row column
pivoted_is t u row column positive h =
    rw (← pivoted_tableau_from (pivoted_tableau t row column) u (first_overflow t row column) h) (pivoted_tableau_is t row column positive)

pub pivoted_keeps_solutions : (t u : TableauView) (row column : ℕ) → row < t.constraints → pos 0 <ℤ t.cell row column → pivoted t row column ≡ Pivoted.tableau u → SameSolutions t u
pivoted_keeps_solutions t u row column within positive h = pivot_keeps_solutions t u row column (omega arith) (pivoted_is t u row column positive h)
