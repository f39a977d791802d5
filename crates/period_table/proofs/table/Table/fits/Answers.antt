use Rattle.period_table.proofs.FittingTables.{some_period}
use Rattle.period_table.proofs.table.Table.fits.Goals as goal

pub returns-then-are_moved-clause-no : goal.returns-then-are_moved-clause-no
returns-then-are_moved-clause-no c = λ fits. c.has_rate.ensures.no (some_period c.args.timed.now c.args.series c.args.self.now fits) fits.rate_num
