use Rattle.std.proofs.Common.{◌≡◌, ◌++◌}
use Rattle.programme_rows.specs.Listings.{each_where}
use Rattle.tasking_program.specs.declared.columns.Column.TheVariants.{Flows}
use Rattle.tasking_program.specs.Columns.{carries}
use Rattle.tasking_program.proofs.columns.push_flows.Given as goal

abbrev pub invariant-loop-link : goal.invariant-loop-link
invariant-loop-link l = l.columns ≡ l.initial.columns ++ each_where (carries l.timed) Flows l.link
