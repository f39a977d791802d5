use Rattle.std.proofs.Common.{◌≡◌, ◌<◌, ◌^◌}
use Rattle.linear_program.specs.Pivots.{row_divisor}
use Rattle.dense_tableau.specs.Flat.{entry}
use Rattle.dense_tableau.proofs.row.divisor_of.Given as goal

abbrev pub invariant-loop-cell : goal.invariant-loop-cell
invariant-loop-cell l = record {
  value : l.divisor ≡ row_divisor l.cell-index (entry l.row);
  fits : l.divisor < 2 ^ 127;
}
