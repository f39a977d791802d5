use Rattle.std.proofs.Common.{◌≡◌, ℕ, ◌<◌, ◌≤◌, pos, length}
use Rattle.linear_program.specs.Starts.{start_cell}
use Rattle.dense_tableau.specs.Flat.{cell_of}
use Rattle.dense_tableau.proofs.starting.write_start.Given as goal

abbrev pub invariant-loop-row : goal.invariant-loop-row
invariant-loop-row l = record {
  size : length l.cells ≡ length l.initial.cells;
  written : (i j : ℕ) → i < l.row → j < l.width → cell_of l.width l.cells i j ≡ start_cell l.lp i j;
  left : (i j : ℕ) → l.row ≤ i → cell_of l.width l.cells i j ≡ pos 0;
}
