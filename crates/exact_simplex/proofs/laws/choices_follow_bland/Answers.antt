use Rattle.exact_simplex.proofs.Choices.{entering_is, leaving_is}
use Rattle.exact_simplex.proofs.laws.choices_follow_bland.Goals as goal

pub returns-clause-entering : goal.returns-clause-entering
returns-clause-entering c = entering_is

pub returns-clause-leaving : goal.returns-clause-leaving
returns-clause-leaving c = leaving_is
