use Rattle.std.proofs.Common.{◌≡◌, length}
use Rattle.dense_tableau.proofs.Listed.{AreListed}
use Rattle.dense_tableau.proofs.row.nonzero_columns.Given as goal

abbrev pub invariant-loop-j : goal.invariant-loop-j
invariant-loop-j l = record {
  length : length l.columns ≡ length l.initial.columns;
  listed : AreListed l.row l.columns l.count l.j;
}
