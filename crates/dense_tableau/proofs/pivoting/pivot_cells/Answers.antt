use Rattle.std.proofs.Common.{sym}
use Rattle.linear_program.proofs.Overflows.{no_row_overflows}
use Rattle.dense_tableau.specs.Flat.{cell_of}
use Rattle.dense_tableau.proofs.pivoting.pivot_cells.Goals as goal

pub change_others-requires-clause-fits : goal.change_others-requires-clause-fits
change_others-requires-clause-fits c i within apart =
    let w = c.args.width in
    let cells = c.args.cells.now in
    no_row_overflows w (cell_of w cells c.args.row) (cell_of w cells) c.args.row c.args.column c.args.rows (sym c.in_default.ensures) i within apart
