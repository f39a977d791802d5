use Rattle.std.proofs.Common.{rules}
use Rattle.actor_programs.proofs.sending.push_piece.Goals as goal

pub returns : goal.returns
returns c = search rules
