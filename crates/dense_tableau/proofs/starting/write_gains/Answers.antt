use Rattle.std.proofs.Common.{rules}
use Rattle.dense_tableau.proofs.starting.write_gains.Goals as goal

pub loop-j-preserved : goal.loop-j-preserved
loop-j-preserved c = search rules
