use Rattle.std.proofs.Common.{◌≡◌, ◌≢◌, ℕ, ◌<◌, ◌≤◌, length, slice_index}
use Rattle.dense_tableau.specs.Flat.{entry}
use Rattle.dense_tableau.proofs.Listed.{IsCombined}
use Rattle.dense_tableau.proofs.row.combine_listed.Given as goal

abbrev pub invariant-loop-k : goal.invariant-loop-k
invariant-loop-k l = record {
  size : length l.row ≡ length l.initial.row;
  left : (k : ℕ) → l.k ≤ k → k < length l.columns → entry l.row (slice_index l.columns k) ≡ entry l.initial.row (slice_index l.columns k);
  made : (j : ℕ) → j < length l.initial.row → ((k : ℕ) → l.k ≤ k → k < length l.columns → slice_index l.columns k ≢ j) →
      IsCombined l.by.own l.by.pivot (entry l.initial.row j) (entry l.pivot_row j) l.column j (entry l.row j);
}
