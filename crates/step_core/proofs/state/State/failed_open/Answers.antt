use Rattle.std.proofs.Common.{arith}
use Rattle.std.proofs.lemmas.Grind.{common_steps}
use Rattle.step_core.proofs.state.State.failed_open.Goals as goal

pub returns-in-Some-index : goal.returns-in-Some-index
returns-in-Some-index c = grind (arith, common_steps)

pub returns-then-counts-ends : goal.returns-then-counts-ends
returns-then-counts-ends c = grind (arith, common_steps)

pub returns : goal.returns
returns c = grind (arith, common_steps)
