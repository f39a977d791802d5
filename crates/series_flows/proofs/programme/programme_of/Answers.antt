use Rattle.std.proofs.Common.{rules}
use Rattle.series_flows.proofs.programme.programme_of.Goals as goal

pub scatter_lp-requires : goal.scatter_lp-requires
scatter_lp-requires c = search rules

pub returns-in_ok-tasking_lp-in-Tasking-clause-programme : goal.returns-in_ok-tasking_lp-in-Tasking-clause-programme
returns-in_ok-tasking_lp-in-Tasking-clause-programme c = search rules
