use Rattle.steady_top.proofs.Responses.{ends}
use Rattle.steady_top.proofs.top.steady.Goals as goal

pub returns : goal.returns
returns g c = ends _ _ c.respond.ensures
