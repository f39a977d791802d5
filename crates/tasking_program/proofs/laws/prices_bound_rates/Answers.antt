use Rattle.tasking_program.proofs.Rates.{bounds_rates}
use Rattle.tasking_program.proofs.laws.prices_bound_rates.Goals as goal

pub returns : goal.returns
returns c = bounds_rates
