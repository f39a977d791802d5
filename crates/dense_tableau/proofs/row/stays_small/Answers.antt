use Rattle.std.proofs.Common.{rules}
use Rattle.dense_tableau.proofs.row.stays_small.Goals as goal

pub returns-in-Some : goal.returns-in-Some
returns-in-Some c = search rules
