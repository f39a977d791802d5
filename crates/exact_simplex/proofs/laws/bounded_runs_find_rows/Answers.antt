use Rattle.exact_simplex.proofs.Choices.{bounded_run}
use Rattle.exact_simplex.proofs.laws.bounded_runs_find_rows.Goals as goal

pub returns : goal.returns
returns c = bounded_run
