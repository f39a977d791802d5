-- A pivot in a row of least ratio keeps what every tableau of a run keeps.
use Rattle.std.proofs.Common.{◌≡◌, ◌≢◌, ℕ, ◌+◌, ◌<◌, ◌≤◌, pos, ◌*ℤ◌, ◌≤ℤ◌, arith, refl, sym, ◌∙◌, ap, inl, inr}
use Rattle.std.proofs.Math.IntN.{*ℤ-zero, *ℤ_comm}
use Rattle.std.proofs.lemmas.Int.{ints, by_lt_z}
use Rattle.std.proofs.lemmas.Bool.{cases_eq}
use Rattle.linear_program.proofs.Integers.{cancel_none, cancel_same, cancel_positive, cancel_not_negative, cancel_at_most, positive_times, not_negative_times, times_keeps_order, times_product}
use Rattle.linear_program.proofs.Sums.{combined_sum, same_sum}
use Rattle.linear_program.proofs.Solutions.{pivot_keeps_solutions}
use Rattle.linear_program.specs.Sums.{sum_below}
use Rattle.linear_program.specs.Tableaux.{TableauView, objective_column, side_column, width, IsReduced, IsPivoted, IsCanonical, IsDerived, HasLeastRatio}

-- a reduced row is 0 in the pivot's column
pub reduced_column : (t u : TableauView) (row column i : ℕ) → column < width t → IsReduced (width t) (t.cell row) (t.cell i) (u.cell i) column → u.cell i column ≡ pos 0
reduced_column t u row column i within r =
    cancel_none r.divisor _ r.divisor_positive (let e = r.cells column within in let m = r.meets in omega (arith, ints, e, m))

-- where the pivot's row is 0, a reduced row keeps its sign
reduced_beside : (t u : TableauView) (row column i j : ℕ) (r : IsReduced (width t) (t.cell row) (t.cell i) (u.cell i) column) → j < width t → t.cell row j ≡ pos 0 →
    r.divisor *ℤ u.cell i j ≡ r.own *ℤ t.cell i j
reduced_beside t u row column i j r within none =
    let e = rw (none, *ℤ-zero) at (r.cells j within) in omega (arith, ints, e)

-- the right side of a reduced row is not below 0, where the pivot's row has the least ratio
reduced_side : (t u : TableauView) (row column i : ℕ) (r : IsReduced (width t) (t.cell row) (t.cell i) (u.cell i) column) → i < t.constraints → IsCanonical t → HasLeastRatio t column row →
    pos 0 ≤ℤ u.cell i (side_column t)
reduced_side t u row column i r within canonical leaves =
    let side = t.cell i (side_column t) in
    let pivot_side = t.cell row (side_column t) in
    let here = t.cell i column in
    let there = t.cell row column in
    let side_not_negative : pos 0 ≤ℤ side = canonical.sides i within in
    let pivot_side_not_negative : pos 0 ≤ℤ pivot_side = canonical.sides row leaves.within in
    let own_not_negative : pos 0 ≤ℤ r.own = let h = r.own_positive in omega (arith, ints, h) in
    let at_most : (r.pivot *ℤ pivot_side) ≤ℤ (r.own *ℤ side) =
    by_lt_z (pos 0) here
    (λ positive.
    let ratio : (pivot_side *ℤ here) ≤ℤ (side *ℤ there) = leaves.least i within positive in
    let scaled : (r.own *ℤ (pivot_side *ℤ here)) ≤ℤ (r.own *ℤ (side *ℤ there)) = times_keeps_order r.own _ _ own_not_negative ratio in
    let left : r.own *ℤ (pivot_side *ℤ here) ≡ there *ℤ (r.pivot *ℤ pivot_side) =
    ap (λ z. r.own *ℤ z) (*ℤ_comm pivot_side here) ∙ sym (times_product r.own here pivot_side) ∙ ap (λ z. z *ℤ pivot_side) (r.meets ∙ *ℤ_comm r.pivot there) ∙ times_product there r.pivot pivot_side in
    let right : r.own *ℤ (side *ℤ there) ≡ there *ℤ (r.own *ℤ side) = sym (times_product r.own side there) ∙ *ℤ_comm (r.own *ℤ side) there in
    cancel_at_most there _ _ leaves.positive (rw (left, right) at scaled))
    (λ none.
    let meets : r.own *ℤ here ≡ r.pivot *ℤ there = r.meets in
    let low : (r.own *ℤ here) ≤ℤ (r.own *ℤ pos 0) = times_keeps_order r.own here (pos 0) own_not_negative none in
    let pivot_low : r.pivot ≤ℤ pos 0 = cancel_at_most there r.pivot (pos 0) leaves.positive
    (rw (*ℤ-zero there, *ℤ_comm there r.pivot) (let h = rw *ℤ-zero at low in omega (arith, ints, h, meets))) in
    let product_low : (pivot_side *ℤ r.pivot) ≤ℤ (pivot_side *ℤ pos 0) = times_keeps_order pivot_side r.pivot (pos 0) pivot_side_not_negative pivot_low in
    omega (arith, ints, rw *ℤ-zero at product_low, *ℤ_comm pivot_side r.pivot, not_negative_times r.own side own_not_negative side_not_negative)) in
    cancel_not_negative r.divisor _ r.divisor_positive (rw (r.cells (side_column t) (omega arith)) (omega (arith, ints, at_most)))

pub basics_within : (t : TableauView) → IsCanonical t → (i : ℕ) → i ≤ t.constraints → t.basic i < width t
basics_within t canonical i l =
    let last : t.basic t.constraints ≡ objective_column t = canonical.last_basic in
    elim (cases_eq i t.constraints) [
      | inl same ↦ rw (same, last) (omega arith)
      | inr other ↦ let less : t.basic i < objective_column t = canonical.basic_within i (omega arith) in omega arith
    ]

pub canonical_kept : (t u : TableauView) (row column : ℕ) → IsCanonical t → IsPivoted t u row column → column < objective_column t → HasLeastRatio t column row → IsCanonical u
canonical_kept t u row column canonical step entering leaves =
    let n = step.same_values in
    let m = step.same_constraints in
    let row_within : row < t.constraints = leaves.within in
    let row_inside : row ≤ t.constraints = omega arith in
    let column_within : column < width t = omega arith in
    let basic_inside : (i : ℕ) → i ≤ t.constraints → t.basic i < width t = basics_within t canonical in
    record {
      last_basic =
          let other : t.constraints ≢ row = omega arith in
          rw (n, m) (step.stayed t.constraints other ∙ canonical.last_basic);
      basic_within = λ i l.
          let inside : i < t.constraints = rw m at l in
          rw (n, m)
          (elim (cases_eq i row) [
            | inl same ↦ rw (same, step.entered) entering
            | inr other ↦ rw (step.stayed i other) (canonical.basic_within i inside)
          ]);
      own_positive = λ i l.
          let inside : i ≤ t.constraints = rw m at l in
          elim (cases_eq i row) [
            | inl same ↦ rw (same, step.entered, step.kept column column_within) leaves.positive
            | inr other ↦
                let r = step.reduced i other in
                let none : t.cell row (t.basic i) ≡ pos 0 = canonical.alone i row inside row_inside (λ e. other (sym e)) in
                rw (step.stayed i other)
                (cancel_positive r.divisor _ r.divisor_positive
                (rw (reduced_beside t u row column i (t.basic i) r (basic_inside i inside) none) (positive_times r.own _ r.own_positive (canonical.own_positive i inside))))
          ];
      alone = λ i k l h apart.
          let inside : i ≤ t.constraints = rw m at l in
          let k_inside : k ≤ t.constraints = rw m at h in
          elim (cases_eq i row) [
            | inl same ↦
                let k_other : k ≢ row = λ e. apart (e ∙ sym same) in
                rw (same, step.entered) (reduced_column t u row column k column_within (step.reduced k k_other))
            | inr other ↦
                let none : t.cell row (t.basic i) ≡ pos 0 = canonical.alone i row inside row_inside (λ e. other (sym e)) in
                rw (step.stayed i other)
                (elim (cases_eq k row) [
                  | inl k_same ↦ rw (k_same, step.kept (t.basic i) (basic_inside i inside)) none
                  | inr k_other ↦
                      let r = step.reduced k k_other in
                      cancel_none r.divisor _ r.divisor_positive
                      (reduced_beside t u row column k (t.basic i) r (basic_inside i inside) none ∙ rw (canonical.alone i k inside k_inside apart, *ℤ-zero) refl)
                ])
          ];
      sides = λ i l.
          let inside : i < t.constraints = rw m at l in
          rw (n, m)
          (elim (cases_eq i row) [
            | inl same ↦ rw (same, step.kept (side_column t) (omega arith)) (canonical.sides row row_within)
            | inr other ↦ reduced_side t u row column i (step.reduced i other) inside canonical leaves
          ]);
    }

derived_cell : (s t u : TableauView) (row column i j : ℕ) (r : IsReduced (width t) (t.cell row) (t.cell i) (u.cell i) column) → IsDerived s t → i ≤ t.constraints → row ≤ t.constraints → j < width t →
    u.cell i j ≡ sum_below (t.constraints + 1) (λ k. u.cell i (t.values + k) *ℤ s.cell k j)
derived_cell s t u row column i j r derived inside row_inside within =
    cancel_same r.divisor _ _ r.divisor_positive
    (r.cells j within
    ∙ rw (derived.combined i j inside within, derived.combined row j row_inside within)
    (sym (combined_sum (t.constraints + 1) r.divisor r.own r.pivot (λ k. u.cell i (t.values + k)) (λ k. t.cell i (t.values + k)) (λ k. t.cell row (t.values + k)) (λ k. s.cell k j) (λ k l. r.cells (t.values + k) (omega arith)))))

pub derived_kept : (s t u : TableauView) (row column : ℕ) → IsDerived s t → IsPivoted t u row column → row ≤ t.constraints → IsDerived s u
derived_kept s t u row column derived step row_inside =
    let n = step.same_values in
    let m = step.same_constraints in
    record {
      same_values = n ∙ derived.same_values;
      same_constraints = m ∙ derived.same_constraints;
      combined = λ i j l h.
          let inside : i ≤ t.constraints = rw m at l in
          let within : j < width t = rw (n, m) at h in
          rw (n, m)
          (elim (cases_eq i row) [
            | inl same ↦
                rw same
                (step.kept j within ∙ derived.combined row j row_inside within
                ∙ same_sum (t.constraints + 1) (λ k. t.cell row (t.values + k) *ℤ s.cell k j) (λ k. u.cell row (t.values + k) *ℤ s.cell k j) (λ k l2. ap (λ z. z *ℤ s.cell k j) (sym (step.kept (t.values + k) (omega arith)))))
            | inr other ↦ derived_cell s t u row column i j (step.reduced i other) derived inside row_inside within
          ]);
      solutions = λ x.
          let before = derived.solutions x in
          let after = pivot_keeps_solutions t u row column row_inside step x in
          (λ h. after.0 (before.0 h), λ h. before.1 (after.1 h));
    }
