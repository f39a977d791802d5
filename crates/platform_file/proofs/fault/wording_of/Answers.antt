use Rattle.std.proofs.Common.{rules, arith}
use Rattle.std.proofs.lemmas.Grind.{common_steps}
use Rattle.platform_file.proofs.fault.wording_of.Goals as goal

pub returns-in-Unknown : goal.returns-in-Unknown
returns-in-Unknown c = first_of (search rules, grind (arith, common_steps))
