use Rattle.std.proofs.Common.{rules, arith}
use Rattle.std.proofs.lemmas.Grind.{common_steps}
use Rattle.platform_file.proofs.platform.may_name.Goals as goal

pub returns-then-text-le32 : goal.returns-then-text-le32
returns-then-text-le32 c = first_of (search rules, grind (arith, common_steps))

pub returns-else-text-le32 : goal.returns-else-text-le32
returns-else-text-le32 c = first_of (search rules, grind (arith, common_steps))
