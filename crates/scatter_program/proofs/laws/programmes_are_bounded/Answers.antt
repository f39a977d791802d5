use Rattle.scatter_program.proofs.Bounded.{bounded}
use Rattle.scatter_program.proofs.laws.programmes_are_bounded.Goals as goal

pub returns : goal.returns
returns c = bounded
