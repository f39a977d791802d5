use Rattle.std.proofs.Common.{◌≡◌, ℕ, ◌<◌, ◌≤◌, length}
use Rattle.linear_program.specs.Pivots.{changed_row}
use Rattle.dense_tableau.specs.Flat.{entry, cell_of}
use Rattle.dense_tableau.proofs.pivoting.change_rows.Given as goal

abbrev pub invariant-loop-other : goal.invariant-loop-other
invariant-loop-other l = record {
  size : length l.cells ≡ length l.initial.cells;
  changed : (i j : ℕ) → i < l.other →
      cell_of (length l.pivot_row) l.cells i j ≡ changed_row (length l.pivot_row) (entry l.pivot_row) (cell_of (length l.pivot_row) l.initial.cells i) l.column j;
  left : (i j : ℕ) → l.other ≤ i → cell_of (length l.pivot_row) l.cells i j ≡ cell_of (length l.pivot_row) l.initial.cells i j;
}
