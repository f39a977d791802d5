use Rattle.rehearsal.proofs.Seeds as seeds
use Rattle.rehearsal.proofs.laws.decided.Goals as goal

pub returns : goal.returns
returns c = seeds.same-histories
