use Rattle.std.proofs.Common.{◌≡◌, ℕ, ◌+◌, ◌<◌, length, slice_index_or}
use Rattle.dense_tableau.proofs.starting.start_basics.Given as goal

abbrev pub invariant-loop-row : goal.invariant-loop-row
invariant-loop-row l = record {
  size : length l.basics.items ≡ l.row;
  basics : (i : ℕ) → i < l.row → slice_index_or l.basics.items i 0 ≡ l.lp.columns + i;
}
