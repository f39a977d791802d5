use Rattle.std.proofs.Common.{rules}
use Rattle.rehearsal.proofs.numbers.following.Goals as goal

pub returns-then-next-actors : goal.returns-then-next-actors
returns-then-next-actors c = search rules
