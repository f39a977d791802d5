use Rattle.std.proofs.Common.{rules, arith}
use Rattle.std.proofs.lemmas.Grind.{common_steps}
use Rattle.period_table.proofs.lane.push_lanes.Goals as goal

pub loop-link-preserved : goal.loop-link-preserved
loop-link-preserved c = first_of (search rules, grind (arith, common_steps))
