use Rattle.std.proofs.Common.{◌≡◌, drop}
use Rattle.linear_program.specs.Programmes.{cell_at}
use Rattle.dual_checker.proofs.checking.cell_at.Given as goal

abbrev pub invariant-loop-cell : goal.invariant-loop-cell
invariant-loop-cell l = cell_at l.row.cells l.column ≡ cell_at (drop l.cell-index l.row.cells) l.column
