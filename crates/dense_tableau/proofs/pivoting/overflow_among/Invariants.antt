use Rattle.std.proofs.Common.{◌≡◌, None, length}
use Rattle.linear_program.specs.Pivots.{rows_overflow}
use Rattle.dense_tableau.specs.Flat.{entry, cell_of}
use Rattle.dense_tableau.proofs.pivoting.overflow_among.Given as goal

abbrev pub invariant-loop-other : goal.invariant-loop-other
invariant-loop-other l =
    rows_overflow (length l.pivot_row) (entry l.pivot_row) (cell_of (length l.pivot_row) l.cells) l.row l.column l.other ≡ None
