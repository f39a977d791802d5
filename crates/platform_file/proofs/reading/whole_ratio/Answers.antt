use Rattle.std.proofs.Common.{rules, arith}
use Rattle.std.proofs.lemmas.Grind.{common_steps}
use Rattle.platform_file.proofs.reading.whole_ratio.Goals as goal

pub returns-then-n-eq0-clause-value : goal.returns-then-n-eq0-clause-value
returns-then-n-eq0-clause-value c = first_of (search rules, grind (arith, common_steps))

pub returns-then-n-eq0-clause-parts : goal.returns-then-n-eq0-clause-parts
returns-then-n-eq0-clause-parts c = first_of (search rules, grind (arith, common_steps))
