use Rattle.std.proofs.Common.{◌≡◌, ◌++◌, length, All}
use Rattle.linear_program.specs.Programmes.{IsRow}
use Rattle.programme_rows.specs.Listings.{each_where}
use Rattle.tasking_program.specs.Rows.{is_limited, row_of}
use Rattle.tasking_program.proofs.rows.push_rows.Given as goal

abbrev pub invariant-loop-node : goal.invariant-loop-node
invariant-loop-node l = record {
  value : l.rows ≡ l.initial.rows ++ each_where (is_limited l.timed l.limit) (row_of l.timed l.limit) l.node;
  rows : All (IsRow (length l.columns)) l.rows;
}
