use Rattle.std.proofs.Common.{rules}
use Rattle.rehearsal.proofs.numbers.drawn_by.Goals as goal

pub returns : goal.returns
returns c = search rules
