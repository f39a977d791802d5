use Rattle.period_table.proofs.FittingTables.{some_period, end_exists}
use Rattle.period_table.proofs.laws.fitting_tables_hold.Goals as goal

pub returns-clause-lasts : goal.returns-clause-lasts
returns-clause-lasts c = some_period

pub returns-clause-ends : goal.returns-clause-ends
returns-clause-ends c = end_exists
