use Rattle.scatter_program.proofs.LookUps.{looked_up}
use Rattle.scatter_program.proofs.laws.columns_are_looked_up.Goals as goal

pub returns : goal.returns
returns c = looked_up
