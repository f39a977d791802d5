use Rattle.ratio_core.proofs.Multiples.{searched_multiple}
use Rattle.ratio_core.proofs.ratio.multiples_are_least.Goals as goal

pub returns : goal.returns
returns c = searched_multiple
