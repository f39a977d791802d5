use Rattle.std.proofs.Common.{◌≡◌}
use Rattle.programme_rows.specs.Cells.{cells_of, AreCells}
use Rattle.tasking_program.specs.Columns.{column_at}
use Rattle.tasking_program.specs.Rows.{cell_of}
use Rattle.tasking_program.proofs.rows.cells_of.Given as goal

abbrev pub invariant-loop-column : goal.invariant-loop-column
invariant-loop-column l = record {
  value : l.cells ≡ cells_of (λ j. cell_of l.timed l.limit l.node (column_at l.columns j)) l.column;
  cells : AreCells l.column l.cells;
}
