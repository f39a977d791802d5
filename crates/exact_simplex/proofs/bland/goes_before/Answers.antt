use Rattle.std.proofs.Common.{rules, arith}
use Rattle.std.proofs.lemmas.Grind.{common_steps}
use Rattle.exact_simplex.proofs.bland.goes_before.Goals as goal

pub returns-in-Equal : goal.returns-in-Equal
returns-in-Equal g c = first_of (search rules, grind (arith, common_steps))
