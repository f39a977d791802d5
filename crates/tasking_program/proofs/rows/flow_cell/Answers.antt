use Rattle.std.proofs.Common.{arith}
use Rattle.std.proofs.lemmas.Grind.{common_steps}
use Rattle.tasking_program.proofs.rows.flow_cell.Goals as goal

pub returns-in-Supply : goal.returns-in-Supply
returns-in-Supply c = grind (arith, common_steps)
