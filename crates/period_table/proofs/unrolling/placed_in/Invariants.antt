use Rattle.std.proofs.Common.{◌≡◌}
use Rattle.period_table.specs.TableSchedules.{ops_below}
use Rattle.period_table.proofs.unrolling.placed_in.Given as goal

abbrev pub invariant-loop-period : goal.invariant-loop-period
invariant-loop-period l = l.placed.items ≡ ops_below l.timed l.series l.table l.period
