use Rattle.std.proofs.Common.{rules, arith}
use Rattle.std.proofs.lemmas.Grind.{common_steps}
use Rattle.period_table.proofs.sums.longest.Goals as goal

pub loop-route-preserved : goal.loop-route-preserved
loop-route-preserved c = first_of (search rules, grind (arith, common_steps))
