use Rattle.std.proofs.Common.{rules}
use Rattle.steady_top.proofs.fault.ReadingFaultDisplay.fmt.Goals as goal

pub returns-in-LongPlan-clause-writes : goal.returns-in-LongPlan-clause-writes
returns-in-LongPlan-clause-writes g c = search rules
