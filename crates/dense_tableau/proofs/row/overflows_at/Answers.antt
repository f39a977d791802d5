use Rattle.std.proofs.Common.{rules}
use Rattle.dense_tableau.proofs.row.overflows_at.Goals as goal

pub returns : goal.returns
returns c = search rules
