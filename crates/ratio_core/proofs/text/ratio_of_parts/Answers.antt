use Rattle.ratio_core.proofs.GcdLemmas.{small_in_lowest_terms}
use Rattle.ratio_core.proofs.text.ratio_of_parts.Goals as goal

pub returns-else-den-gt-MOST_PART-clause-parts : goal.returns-else-den-gt-MOST_PART-clause-parts
returns-else-den-gt-MOST_PART-clause-parts c = rw c.new.ensures (small_in_lowest_terms c.args.num c.args.den c.if-den-eq0.false.0 c.if-den-gt-MOST_PART.false.0 c.if-den-eq0.false.1 c.if-den-gt-MOST_PART.false.1)
