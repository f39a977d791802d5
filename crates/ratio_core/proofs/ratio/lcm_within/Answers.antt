use Rattle.std.proofs.Common.{rules}
use Rattle.ratio_core.proofs.GcdLemmas.{gcd_positive}
use Rattle.ratio_core.proofs.Multiples.{searched_multiple}
use Rattle.ratio_core.proofs.ratio.lcm_within.Goals as goal

pub nonzero_div-share : goal.nonzero_div-share
nonzero_div-share c = gcd_positive _ _ _ c.requires.second c.gcd.ensures.divisor

pub returns-then-share-max-clause-least : goal.returns-then-share-max-clause-least
returns-then-share-max-clause-least c = searched_multiple c.args.a c.args.b c.requires.first c.requires.second

pub returns-else-share-max-clause-least : goal.returns-else-share-max-clause-least
returns-else-share-max-clause-least c = searched_multiple c.args.a c.args.b c.requires.first c.requires.second

pub returns-else-share-max-clause-value : goal.returns-else-share-max-clause-value
returns-else-share-max-clause-value c = search rules
