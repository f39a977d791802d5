use Rattle.std.proofs.Common.{rules}
use Rattle.dual_checker.proofs.printing.push_best.Goals as goal

pub returns : goal.returns
returns c = search rules
