use Rattle.std.proofs.Common.{◌≡◌, ℕ, ◌≤◌, length, drop}
use Rattle.linear_program.specs.Programmes.{cell_at}
use Rattle.dense_tableau.specs.Flat.{entry}
use Rattle.dense_tableau.proofs.starting.write_cells.Given as goal

abbrev pub invariant-loop-left : goal.invariant-loop-left
invariant-loop-left l = record {
  size : length l.row ≡ length l.initial.row;
  within : l.left ≤ length l.cells;
  cells : (j : ℕ) → entry l.row j ≡ cell_at (drop l.left l.cells) j;
}

abbrev pub decreases-loop-left : goal.decreases-loop-left
decreases-loop-left l = l.left
