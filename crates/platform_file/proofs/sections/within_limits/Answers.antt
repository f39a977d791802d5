use Rattle.std.proofs.Common.{rules, arith}
use Rattle.std.proofs.lemmas.Grind.{common_steps}
use Rattle.platform_file.proofs.sections.within_limits.Goals as goal

pub returns-then-len-gt-MOST_LINKS-clause-value : goal.returns-then-len-gt-MOST_LINKS-clause-value
returns-then-len-gt-MOST_LINKS-clause-value c = first_of (search rules, grind (arith, common_steps))

pub returns-then-len-gt-MOST_TARGETS-clause-value : goal.returns-then-len-gt-MOST_TARGETS-clause-value
returns-then-len-gt-MOST_TARGETS-clause-value c = first_of (search rules, grind (arith, common_steps))

pub returns-clause-value : goal.returns-clause-value
returns-clause-value c = first_of (search rules, grind (arith, common_steps))

pub returns-clause-small : goal.returns-clause-small
returns-clause-small c = first_of (search rules, grind (arith, common_steps))
