use Rattle.std.proofs.Common.{arith}
use Rattle.std.proofs.lemmas.Grind.{common_steps}
use Rattle.flow_routes.proofs.walk.take_along.Goals as goal

pub loop-link-preserved : goal.loop-link-preserved
loop-link-preserved c = record {
  enough = grind (arith, common_steps);
  same = grind (arith, common_steps);
}
