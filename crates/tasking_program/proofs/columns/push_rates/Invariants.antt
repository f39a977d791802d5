use Rattle.std.proofs.Common.{◌≡◌, ◌++◌}
use Rattle.programme_rows.specs.Listings.{each_where}
use Rattle.tasking_program.specs.declared.columns.Column.TheVariants.{Computes}
use Rattle.tasking_program.specs.Columns.{computes}
use Rattle.tasking_program.proofs.columns.push_rates.Given as goal

abbrev pub invariant-loop-node : goal.invariant-loop-node
invariant-loop-node l = l.columns ≡ l.initial.columns ++ each_where (computes l.timed) Computes l.node
