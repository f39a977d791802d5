use Rattle.std.proofs.Common.{arith}
use Rattle.std.proofs.lemmas.Grind.{common_steps}
use Rattle.step_core.proofs.state.State.failed_take.Goals as goal

pub returns-then-counts : goal.returns-then-counts
returns-then-counts c = grind (arith, common_steps)

pub returns-else-counts : goal.returns-else-counts
returns-else-counts c = grind (arith, common_steps)
