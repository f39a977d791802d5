use Rattle.actor_programs.proofs.Counted.{count_law}
use Rattle.actor_programs.proofs.laws.counts_hold.Goals as goal

pub returns : goal.returns
returns c = λ t table chunks n h can has. count_law t table chunks n h can.timed can.fits can.some has.legal has.periods
