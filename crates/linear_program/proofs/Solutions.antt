-- A pivot keeps the solutions, both ways.
use Rattle.std.proofs.Common.{◌≡◌, ℕ, ◌≤◌, ℤ, pos, ◌-ℤ◌, ◌*ℤ◌, arith, refl, sym, ◌∙◌, ap, inl, inr}
use Rattle.std.proofs.Math.IntN.{*ℤ-zero}
use Rattle.std.proofs.lemmas.Int.{ints}
use Rattle.std.proofs.lemmas.Bool.{cases_eq}
use Rattle.linear_program.proofs.Integers.{cancel_none}
use Rattle.linear_program.proofs.Sums.{combined_sum, same_sum}
use Rattle.linear_program.specs.Tableaux.{TableauView, width, row_sum, SameSolutions, IsReduced, IsPivoted}

kept_sum : (t u : TableauView) (row column : ℕ) (x : ℕ → ℤ) → IsPivoted t u row column → row_sum u row x ≡ row_sum t row x
kept_sum t u row column x step =
    rw (step.same_values, step.same_constraints) (same_sum (width t) (λ j. u.cell row j *ℤ x j) (λ j. t.cell row j *ℤ x j) (λ j l. ap (λ z. z *ℤ x j) (step.kept j l)))

reduced_sum : (t u : TableauView) (row column i : ℕ) (x : ℕ → ℤ) (step : IsPivoted t u row column) (r : IsReduced (width t) (t.cell row) (t.cell i) (u.cell i) column) →
    r.divisor *ℤ row_sum u i x ≡ r.own *ℤ row_sum t i x -ℤ r.pivot *ℤ row_sum t row x
reduced_sum t u row column i x step r =
    rw (step.same_values, step.same_constraints) (combined_sum (width t) r.divisor r.own r.pivot (u.cell i) (t.cell i) (t.cell row) x r.cells)

pub pivot_keeps_solutions : (t u : TableauView) (row column : ℕ) → row ≤ t.constraints → IsPivoted t u row column → SameSolutions t u
pivot_keeps_solutions t u row column within step x = (
  λ solves i l.
      elim (cases_eq i row) [
        | inl same ↦ rw same (kept_sum t u row column x step ∙ solves row within)
        | inr other ↦
            let r = step.reduced i other in
            let inside : i ≤ t.constraints = rw step.same_constraints at l in
            cancel_none r.divisor _ r.divisor_positive
            (reduced_sum t u row column i x step r ∙ rw (solves i inside, solves row within, *ℤ-zero, *ℤ-zero) refl)
      ],
  λ solves i l.
      let pivot_row : row_sum t row x ≡ pos 0 = sym (kept_sum t u row column x step) ∙ solves row (rw step.same_constraints within) in
      elim (cases_eq i row) [
        | inl same ↦ rw same pivot_row
        | inr other ↦
            let r = step.reduced i other in
            let new : row_sum u i x ≡ pos 0 = solves i (rw step.same_constraints l) in
            let e = rw (new, pivot_row, *ℤ-zero, *ℤ-zero) at (reduced_sum t u row column i x step r) in
            cancel_none r.own _ r.own_positive (omega (arith, ints, e))
      ],
)
