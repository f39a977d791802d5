use Rattle.std.proofs.Common.{rules}
use Rattle.tasking_program.proofs.rows.rate_cell.Goals as goal

pub returns-in-Compute : goal.returns-in-Compute
returns-in-Compute c = search rules
