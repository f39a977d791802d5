use Rattle.std.proofs.Common.{rules}
use Rattle.scatter_program.proofs.rows.rate_cell.Goals as goal

pub returns-in-Supply : goal.returns-in-Supply
returns-in-Supply c = search rules
