use Rattle.std.proofs.Common.{rules}
use Rattle.run_text.proofs.report.push_nodes.Goals as goal

pub loop-number-init : goal.loop-number-init
loop-number-init c = search rules
