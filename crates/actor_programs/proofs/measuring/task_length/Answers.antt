use Rattle.std.proofs.Common.{rules}
use Rattle.actor_programs.proofs.measuring.task_length.Goals as goal

pub returns-in-Some-Some : goal.returns-in-Some-Some
returns-in-Some-Some c = search rules
