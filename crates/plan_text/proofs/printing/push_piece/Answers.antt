use Rattle.std.proofs.Common.{rules}
use Rattle.plan_text.proofs.printing.push_piece.Goals as goal

pub returns : goal.returns
returns c = search rules
