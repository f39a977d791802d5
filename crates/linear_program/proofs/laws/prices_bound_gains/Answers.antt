use Rattle.linear_program.proofs.WeakDuality.{weak_duality}
use Rattle.linear_program.proofs.laws.prices_bound_gains.Goals as goal

pub returns : goal.returns
returns c = weak_duality
