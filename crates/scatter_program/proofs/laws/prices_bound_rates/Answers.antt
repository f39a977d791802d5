use Rattle.scatter_program.proofs.Rates.{bounds_rates}
use Rattle.scatter_program.proofs.laws.prices_bound_rates.Goals as goal

pub returns : goal.returns
returns c = bounds_rates
