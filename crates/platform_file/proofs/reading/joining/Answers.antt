use Rattle.std.proofs.Common.{rules, arith}
use Rattle.std.proofs.lemmas.Grind.{common_steps}
use Rattle.platform_file.proofs.reading.joining.Goals as goal

pub returns-clause-value : goal.returns-clause-value
returns-clause-value c = first_of (search rules, grind (arith, common_steps))

pub returns-clause-fresh : goal.returns-clause-fresh
returns-clause-fresh c = first_of (search rules, grind (arith, common_steps))
