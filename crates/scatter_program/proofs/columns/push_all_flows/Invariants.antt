use Rattle.std.proofs.Common.{◌≡◌, ◌++◌}
use Rattle.scatter_program.specs.Columns.{flows_below}
use Rattle.scatter_program.proofs.columns.push_all_flows.Given as goal

abbrev pub invariant-loop-kind : goal.invariant-loop-kind
invariant-loop-kind l = l.columns ≡ l.initial.columns ++ flows_below l.timed l.kind
