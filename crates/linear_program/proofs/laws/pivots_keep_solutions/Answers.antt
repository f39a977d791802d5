use Rattle.linear_program.proofs.Pivots.{pivoted_keeps_solutions}
use Rattle.linear_program.proofs.laws.pivots_keep_solutions.Goals as goal

pub returns : goal.returns
returns c = pivoted_keeps_solutions
