use Rattle.std.proofs.Common.{rules}
use Rattle.bipartite_slots.proofs.choice.is_held_before.Goals as goal

pub returns-in-Some : goal.returns-in-Some
returns-in-Some c = search rules
