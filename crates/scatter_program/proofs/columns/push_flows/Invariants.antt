use Rattle.std.proofs.Common.{◌≡◌, ◌++◌}
use Rattle.programme_rows.specs.Listings.{each_where}
use Rattle.scatter_program.specs.declared.columns.Column.TheVariants.{Flows}
use Rattle.scatter_program.specs.Columns.{carries}
use Rattle.scatter_program.proofs.columns.push_flows.Given as goal

abbrev pub invariant-loop-link : goal.invariant-loop-link
invariant-loop-link l = l.columns ≡ l.initial.columns ++ each_where (carries l.timed l.kind) (λ link. Flows link l.kind) l.link
