use Rattle.std.proofs.Common.{arith}
use Rattle.std.proofs.lemmas.Grind.{common_steps}
use Rattle.scatter_program.proofs.columns.carries.Goals as goal

pub returns-then-not-is_master : goal.returns-then-not-is_master
returns-then-not-is_master c = grind (arith, common_steps)
