use Rattle.actor_programs.proofs.Carried.{carried}
use Rattle.actor_programs.proofs.Used.{uses_at_once}
use Rattle.actor_programs.proofs.Computed.{computes_all}
use Rattle.actor_programs.proofs.laws.tasks_hold.Goals as goal

pub returns-clause-carried : goal.returns-clause-carried
returns-clause-carried c = carried

pub returns-clause-used : goal.returns-clause-used
returns-clause-used c = uses_at_once

pub returns-clause-computed : goal.returns-clause-computed
returns-clause-computed c = computes_all
