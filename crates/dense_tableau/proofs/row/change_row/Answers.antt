use Rattle.std.proofs.Common.{rules, ◌≡◌, ℕ, ◌<◌, pos, false, length, of_z, sym, ◌∙◌, ap, inl, inr, SFits}
use Rattle.std.specs.Prelude.{int_div}
use Rattle.std.specs.Int.{w128}
use Rattle.std.proofs.lemmas.Int.{to_z-of_z}
use Rattle.std.proofs.lemmas.Bool.{cases_eq}
use Rattle.linear_program.specs.Pivots.{stays, combined_row, row_divisor}
use Rattle.linear_program.proofs.Changes.{row_changes, no_overflow_fits, combined_column, changed_is}
use Rattle.dense_tableau.specs.Flat.{entry}
use Rattle.dense_tableau.proofs.row.change_row.Goals as goal

pub combine-requires-clause-fits : goal.combine-requires-clause-fits
combine-requires-clause-fits c j within apart =
    let row = c.args.row.now in
    let pivot_row = c.args.pivot_row.now in
    let column = c.args.column in
    let changes : stays (entry row) column ≡ false = row_changes (entry row) column (λ e. c.if-cell-eq0.false (ap (of_z w128) e)) in
    let cell : SFits w128 (entry row column) = search rules in
    let pivot_cell : SFits w128 (entry pivot_row column) = search rules in
    rw (c.multipliers_of-by.ensures.own, c.multipliers_of-by.ensures.pivot, to_z-of_z _ _ cell, to_z-of_z _ _ pivot_cell)
    (no_overflow_fits (length row) (entry pivot_row) (entry row) column changes c.requires.fits j within apart)

pub returns-clause-changed : goal.returns-clause-changed
returns-clause-changed c j within =
    let row = c.args.row.now in
    let pivot_row = c.args.pivot_row.now in
    let made = c.combine.new.row in
    let column = c.args.column in
    let changes : stays (entry row) column ≡ false = row_changes (entry row) column (λ e. c.if-cell-eq0.false (ap (of_z w128) e)) in
    let cell : SFits w128 (entry row column) = search rules in
    let pivot_cell : SFits w128 (entry pivot_row column) = search rules in
    let combined : (k : ℕ) → k < length row → entry made k ≡ combined_row (entry pivot_row) (entry row) column k =
    λ k l. elim (cases_eq k column) [
      | inl same ↦ rw same (c.combine.ensures.zero c.requires.column ∙ sym (combined_column (entry pivot_row) (entry row) column))
      | inr apart ↦ rw (c.multipliers_of-by.ensures.own, c.multipliers_of-by.ensures.pivot, to_z-of_z _ _ cell, to_z-of_z _ _ pivot_cell) at (c.combine.ensures.cells k l apart)
    ] in
    c.reduce.ensures.reduced j (rw c.combine.ensures.length within)
    ∙ ap (λ n. int_div (entry made j) (pos (row_divisor n (entry made)))) c.combine.ensures.length
    ∙ changed_is (length row) (entry pivot_row) (entry row) (entry made) column j changes within combined
