use Rattle.exact_simplex.proofs.Ends.{ended_run_is_optimal}
use Rattle.exact_simplex.proofs.laws.ended_runs_are_optimal.Goals as goal

pub returns : goal.returns
returns c p limit optimum lp bounded h = ended_run_is_optimal p limit optimum lp h
