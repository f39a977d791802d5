use Rattle.std.proofs.Common.{◌≡◌, ◌≢◌, ℕ, ◌<◌, ◌≤◌, ◌^◌, pos, nat_abs, ◌-ℤ◌, ◌*ℤ◌, length}
use Rattle.dense_tableau.specs.Flat.{entry}
use Rattle.dense_tableau.proofs.row.combine_all.Given as goal

abbrev pub invariant-loop-j : goal.invariant-loop-j
invariant-loop-j l = record {
  length : length l.row ≡ length l.initial.row;
  left : (j : ℕ) → l.j ≤ j → entry l.row j ≡ entry l.initial.row j;
  cells : (j : ℕ) → j < l.j → j ≢ l.column → entry l.row j ≡ l.by.own *ℤ entry l.initial.row j -ℤ l.by.pivot *ℤ entry l.pivot_row j;
  zero : l.column < l.j → entry l.row l.column ≡ pos 0;
  small : (j : ℕ) → j < l.j → nat_abs (entry l.row j) < 2 ^ 127;
}
