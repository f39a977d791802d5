use Rattle.std.proofs.Common.{ℕ, ◌<◌, ◌≤◌, nat_abs}
use Rattle.dense_tableau.specs.Flat.{entry}
use Rattle.dense_tableau.proofs.row.size_of.Given as goal

abbrev pub invariant-loop-cell : goal.invariant-loop-cell
invariant-loop-cell l = (j : ℕ) → j < l.cell-index → nat_abs (entry l.row j) ≤ l.size
