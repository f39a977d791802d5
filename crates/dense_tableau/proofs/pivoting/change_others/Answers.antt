use Rattle.dense_tableau.proofs.Parts.{in_parts, behind_whole, front_fits, behind_fits, both_changed}
use Rattle.dense_tableau.proofs.pivoting.change_others.Goals as goal

pub change_rows-requires-clause-fits : goal.change_rows-requires-clause-fits
change_rows-requires-clause-fits c =
    let before = c.split_at_mut-before in
    let pivot = c.split_at_mut-pivot_row in
    let parts = in_parts c.args.width c.args.row c.args.rows c.args.cells.now before.result.0.now before.result.1.now pivot.result.0.now pivot.result.1.now c.requires.whole c.requires.row before.ensures.value before.ensures.front_len pivot.ensures.value pivot.ensures.front_len in
    front_fits c.args.width c.args.row c.args.rows c.args.column c.args.cells.now before.result.0.now pivot.result.0.now pivot.result.1.now parts c.requires.fits

pub change_rows-requires-2-clause-whole : goal.change_rows-requires-2-clause-whole
change_rows-requires-2-clause-whole c =
    let before = c.split_at_mut-before in
    let pivot = c.split_at_mut-pivot_row in
    let parts = in_parts c.args.width c.args.row c.args.rows c.args.cells.now before.result.0.now before.result.1.now pivot.result.0.now pivot.result.1.now c.requires.whole c.requires.row before.ensures.value before.ensures.front_len pivot.ensures.value pivot.ensures.front_len in
    behind_whole c.args.width c.args.row c.args.rows c.args.cells.now before.result.0.now pivot.result.0.now pivot.result.1.now parts

pub change_rows-requires-2-clause-fits : goal.change_rows-requires-2-clause-fits
change_rows-requires-2-clause-fits c =
    let before = c.split_at_mut-before in
    let pivot = c.split_at_mut-pivot_row in
    let parts = in_parts c.args.width c.args.row c.args.rows c.args.cells.now before.result.0.now before.result.1.now pivot.result.0.now pivot.result.1.now c.requires.whole c.requires.row before.ensures.value before.ensures.front_len pivot.ensures.value pivot.ensures.front_len in
    behind_fits c.args.width c.args.row c.args.rows c.args.column c.args.cells.now before.result.0.now pivot.result.0.now pivot.result.1.now parts c.requires.fits

pub returns-clause-changed : goal.returns-clause-changed
returns-clause-changed c =
    let before = c.split_at_mut-before in
    let pivot = c.split_at_mut-pivot_row in
    let parts = in_parts c.args.width c.args.row c.args.rows c.args.cells.now before.result.0.now before.result.1.now pivot.result.0.now pivot.result.1.now c.requires.whole c.requires.row before.ensures.value before.ensures.front_len pivot.ensures.value pivot.ensures.front_len in
    both_changed c.args.width c.args.row c.args.rows c.args.column c.args.cells.now before.result.0.now pivot.result.0.now pivot.result.1.now c.change_rows.new.cells c.change_rows-2.new.cells parts c.change_rows.ensures.length c.change_rows.ensures.changed c.change_rows-2.ensures.changed
