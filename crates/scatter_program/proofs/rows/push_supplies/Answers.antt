use Rattle.std.proofs.Common.{rules}
use Rattle.scatter_program.proofs.rows.push_supplies.Goals as goal

pub returns-clause-value : goal.returns-clause-value
returns-clause-value c = search rules
