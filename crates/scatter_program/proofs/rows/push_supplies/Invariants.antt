use Rattle.std.proofs.Common.{◌≡◌, ◌++◌, length, All}
use Rattle.linear_program.specs.Programmes.{IsRow}
use Rattle.scatter_program.specs.Rows.{supplies_below}
use Rattle.scatter_program.proofs.rows.push_supplies.Given as goal

abbrev pub invariant-loop-kind : goal.invariant-loop-kind
invariant-loop-kind l = record {
  value : l.rows ≡ l.initial.rows ++ supplies_below l.timed l.kind;
  rows : All (IsRow (length l.columns)) l.rows;
}
