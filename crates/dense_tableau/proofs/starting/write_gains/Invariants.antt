use Rattle.std.proofs.Common.{◌≡◌, ℕ, ◌<◌, ◌≤◌, pos, neg_ℤ, length, slice_index_or}
use Rattle.dense_tableau.specs.Flat.{entry}
use Rattle.dense_tableau.proofs.starting.write_gains.Given as goal

abbrev pub invariant-loop-j : goal.invariant-loop-j
invariant-loop-j l = record {
  size : length l.row ≡ length l.initial.row;
  written : (j : ℕ) → j < l.j → entry l.row j ≡ neg_ℤ (slice_index_or l.gain j (pos 0));
  left : (j : ℕ) → l.j ≤ j → entry l.row j ≡ pos 0;
}
