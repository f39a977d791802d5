use Rattle.std.proofs.Common.{rules}
use Rattle.dense_tableau.proofs.row.sparse_quotient.Goals as goal

pub returns-else-cell-eq0 : goal.returns-else-cell-eq0
returns-else-cell-eq0 c = search rules
