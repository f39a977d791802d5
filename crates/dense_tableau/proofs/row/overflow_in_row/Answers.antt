use Rattle.std.proofs.Common.{rules, ◌≡◌, ◌<◌, ◌*◌, ◌^◌, ℤ, nat_abs, false, is_none, cond, nat_eq, length, of_z, refl, sym, ◌∙◌, ap, SFits}
use Rattle.std.specs.Int.{w128}
use Rattle.std.proofs.lemmas.Int.{to_z-of_z}
use Rattle.linear_program.specs.Pivots.{stays, own_multiplier, pivot_multiplier, first_below}
use Rattle.linear_program.specs.Sizes.{fitting_combination}
use Rattle.linear_program.proofs.Changes.{row_changes, fits_no_overflow}
use Rattle.linear_program.proofs.Combinations.{small_combination_fits}
use Rattle.dense_tableau.specs.Flat.{entry}
use Rattle.dense_tableau.proofs.row.overflow_in_row.Goals as goal

pub returns-then-stays_small-2 : goal.returns-then-stays_small-2
returns-then-stays_small-2 c =
    let row = c.args.row.now in
    let pivot_row = c.args.pivot_row.now in
    let column = c.args.column in
    let by = c.multipliers_of-by.result in
    let changes : stays (entry row) column ≡ false = row_changes (entry row) column (λ e. c.if-cell-eq0.false (ap (of_z w128) e)) in
    let cell : SFits w128 (entry row column) = search rules in
    let pivot_cell : SFits w128 (entry pivot_row column) = search rules in
    let own_fits : SFits w128 by.own = search rules in
    let pivot_fits : SFits w128 by.pivot = search rules in
    let own : by.own ≡ own_multiplier (entry pivot_row) (entry row) column = rw (to_z-of_z _ _ cell, to_z-of_z _ _ pivot_cell) at c.multipliers_of-by.ensures.own in
    let pivot : by.pivot ≡ pivot_multiplier (entry pivot_row) (entry row) column = rw (to_z-of_z _ _ cell, to_z-of_z _ _ pivot_cell) at c.multipliers_of-by.ensures.pivot in
    let own_small : nat_abs by.own * c.size_of.result < 2 ^ 126 = rw (to_z-of_z _ _ own_fits) at (c.if-stays_small.ensures refl) in
    let pivot_small : nat_abs by.pivot * c.args.pivot_size < 2 ^ 126 = rw (to_z-of_z _ _ pivot_fits) at (c.if-stays_small-2.ensures refl) in
    sym (fits_no_overflow (length row) (entry pivot_row) (entry row) column changes
    (λ j l. rw (← own, ← pivot)
    (small_combination_fits by.own (entry row j) by.pivot (entry pivot_row j) c.size_of.result c.args.pivot_size own_small pivot_small (c.size_of.ensures j l) (c.requires.pivot_size j (rw c.requires.same at l)))))

pub returns : goal.returns
returns c =
    let row = c.args.row.now in
    let pivot_row = c.args.pivot_row.now in
    let column = c.args.column in
    let by = c.multipliers_of-by.result in
    let changes : stays (entry row) column ≡ false = row_changes (entry row) column (λ e. c.if-cell-eq0.false (ap (of_z w128) e)) in
    let cell : SFits w128 (entry row column) = search rules in
    let pivot_cell : SFits w128 (entry pivot_row column) = search rules in
    let own : by.own ≡ own_multiplier (entry pivot_row) (entry row) column = rw (to_z-of_z _ _ cell, to_z-of_z _ _ pivot_cell) at c.multipliers_of-by.ensures.own in
    let pivot : by.pivot ≡ pivot_multiplier (entry pivot_row) (entry row) column = rw (to_z-of_z _ _ cell, to_z-of_z _ _ pivot_cell) at c.multipliers_of-by.ensures.pivot in
    let search_by = λ (p q : ℤ). first_below (length row) (λ j. cond (nat_eq j column) false (is_none (fitting_combination p (entry row j) q (entry pivot_row j)))) in
    let found : c.overflow_along.result ≡ search_by by.own by.pivot = c.overflow_along.ensures in
    rw changes (found ∙ ap (λ p. search_by p by.pivot) own ∙ ap (search_by (own_multiplier (entry pivot_row) (entry row) column)) pivot)
