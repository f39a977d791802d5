use Rattle.std.proofs.Common.{rules}
use Rattle.run_text.proofs.appending.hexadecimal.Goals as goal

pub returns : goal.returns
returns c = search rules
