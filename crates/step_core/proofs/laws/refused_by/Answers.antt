use Rattle.step_core.proofs.Refusals as laws
use Rattle.step_core.proofs.laws.refused_by.Goals as goal

pub returns : goal.returns
returns c w h actor e n next = laws.refused_by w h actor e n next
