use Rattle.std.proofs.Common.{rules, arith}
use Rattle.std.proofs.lemmas.Grind.{common_steps}
use Rattle.schedule_model.proofs.tally.Tally.broken_use.Goals as goal

pub returns-then-sends_own : goal.returns-then-sends_own
returns-then-sends_own c = first_of (search rules, grind (arith, common_steps))
