use Rattle.std.proofs.Common.{rules}
use Rattle.actor_programs.proofs.actor.actors.Goals as goal

pub returns : goal.returns
returns c = search rules
