use Rattle.std.proofs.Common.{◌≡◌, ℕ, ◌<◌, ◌≤◌, pos, length}
use Rattle.std.specs.Prelude.{int_div}
use Rattle.dense_tableau.specs.Flat.{entry}
use Rattle.dense_tableau.proofs.row.divide.Given as goal

abbrev pub invariant-loop-cell : goal.invariant-loop-cell
invariant-loop-cell l = record {
  length : length l.row ≡ length l.initial.row;
  left : (j : ℕ) → l.cell-index ≤ j → entry l.row j ≡ entry l.initial.row j;
  divided : (j : ℕ) → j < l.cell-index → entry l.row j ≡ int_div (entry l.initial.row j) (pos l.divisor);
}
