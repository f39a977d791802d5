use Rattle.std.proofs.Common.{rules}
use Rattle.programme_rows.proofs.rows.where_true.Goals as goal

pub returns-then-test : goal.returns-then-test
returns-then-test c = search rules

pub returns-else-test : goal.returns-else-test
returns-else-test c = search rules
