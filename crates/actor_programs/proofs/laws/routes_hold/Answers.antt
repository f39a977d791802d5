use Rattle.actor_programs.proofs.RouteLists.{listed, ascending}
use Rattle.actor_programs.proofs.laws.routes_hold.Goals as goal

pub returns-clause-listed : goal.returns-clause-listed
returns-clause-listed c = listed

pub returns-clause-ascending : goal.returns-clause-ascending
returns-clause-ascending c = ascending
