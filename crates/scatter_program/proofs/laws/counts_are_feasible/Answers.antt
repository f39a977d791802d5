use Rattle.scatter_program.proofs.Feasible.{feasible}
use Rattle.scatter_program.proofs.Rates.{gain_of_counts}
use Rattle.scatter_program.proofs.laws.counts_are_feasible.Goals as goal

pub returns-clause-feasible : goal.returns-clause-feasible
returns-clause-feasible c = feasible

pub returns-clause-gain : goal.returns-clause-gain
returns-clause-gain c = gain_of_counts
