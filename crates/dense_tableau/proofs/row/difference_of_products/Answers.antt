use Rattle.std.proofs.Common.{rules, ◌-ℤ◌, ◌*ℤ◌, SFits}
use Rattle.std.specs.Int.{w128}
use Rattle.std.proofs.lemmas.Int.{to_z-of_z, fits_signed_from_abs}
use Rattle.linear_program.proofs.Combinations.{combination_parts}
use Rattle.dense_tableau.proofs.row.difference_of_products.Goals as goal

pub overflow_sub-result : goal.overflow_sub-result
overflow_sub-result c =
    let own : SFits w128 c.args.by.now.own = search rules in
    let pivot : SFits w128 c.args.by.now.pivot = search rules in
    let parts = combination_parts c.args.by.now.own c.args.cell c.args.by.now.pivot c.args.pivot_cell c.requires in
    let left : SFits w128 (c.args.by.now.own *ℤ c.args.cell) = fits_signed_from_abs w128 _ parts.0 in
    let right : SFits w128 (c.args.by.now.pivot *ℤ c.args.pivot_cell) = fits_signed_from_abs w128 _ parts.1 in
    rw (to_z-of_z _ _ own, to_z-of_z _ _ pivot, to_z-of_z _ _ c.ranges.cell, to_z-of_z _ _ c.ranges.pivot_cell, to_z-of_z _ _ left, to_z-of_z _ _ right) (fits_signed_from_abs w128 _ parts.2)

pub returns-clause-value : goal.returns-clause-value
returns-clause-value c =
    let own : SFits w128 c.args.by.now.own = search rules in
    let pivot : SFits w128 c.args.by.now.pivot = search rules in
    let parts = combination_parts c.args.by.now.own c.args.cell c.args.by.now.pivot c.args.pivot_cell c.requires in
    let left : SFits w128 (c.args.by.now.own *ℤ c.args.cell) = fits_signed_from_abs w128 _ parts.0 in
    let right : SFits w128 (c.args.by.now.pivot *ℤ c.args.pivot_cell) = fits_signed_from_abs w128 _ parts.1 in
    let whole : SFits w128 (c.args.by.now.own *ℤ c.args.cell -ℤ c.args.by.now.pivot *ℤ c.args.pivot_cell) = fits_signed_from_abs w128 _ parts.2 in
    rw (to_z-of_z _ _ own, to_z-of_z _ _ pivot, to_z-of_z _ _ c.ranges.cell, to_z-of_z _ _ c.ranges.pivot_cell, to_z-of_z _ _ left, to_z-of_z _ _ right) (to_z-of_z _ _ whole)

pub returns-clause-small : goal.returns-clause-small
returns-clause-small c =
    let parts = combination_parts c.args.by.now.own c.args.cell c.args.by.now.pivot c.args.pivot_cell c.requires in
    rw (returns-clause-value c) parts.2
