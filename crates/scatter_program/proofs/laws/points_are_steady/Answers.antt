use Rattle.scatter_program.proofs.SteadyPoints.{steady, gain}
use Rattle.scatter_program.proofs.laws.points_are_steady.Goals as goal

pub returns-clause-steady : goal.returns-clause-steady
returns-clause-steady c = steady

pub returns-clause-gain : goal.returns-clause-gain
returns-clause-gain c = gain
