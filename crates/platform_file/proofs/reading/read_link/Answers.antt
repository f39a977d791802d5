use Rattle.std.proofs.Common.{rules, arith}
use Rattle.std.proofs.lemmas.Grind.{common_steps}
use Rattle.platform_file.proofs.reading.read_link.Goals as goal

pub returns-in_err-cost-clause-value : goal.returns-in_err-cost-clause-value
returns-in_err-cost-clause-value c = first_of (search rules, grind (arith, common_steps))

pub returns-in_err-from-clause-value : goal.returns-in_err-from-clause-value
returns-in_err-from-clause-value c = first_of (search rules, grind (arith, common_steps))
