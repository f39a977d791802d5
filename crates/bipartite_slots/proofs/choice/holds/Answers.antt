use Rattle.std.proofs.Common.{rules}
use Rattle.bipartite_slots.proofs.choice.holds.Goals as goal

pub returns : goal.returns
returns c = search rules
