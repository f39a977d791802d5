use Rattle.std.proofs.Common.{rules, arith}
use Rattle.std.proofs.lemmas.Grind.{common_steps}
use Rattle.dual_checker.proofs.checking.uncovered.Goals as goal

pub returns-then-sum-least : goal.returns-then-sum-least
returns-then-sum-least c = first_of (search rules, grind (arith, common_steps))

pub returns-in_default : goal.returns-in_default
returns-in_default c = first_of (search rules, grind (arith, common_steps))

pub returns-in_default-2 : goal.returns-in_default-2
returns-in_default-2 c = first_of (search rules, grind (arith, common_steps))
