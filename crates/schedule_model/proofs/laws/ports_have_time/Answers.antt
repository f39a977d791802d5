use Rattle.schedule_model.proofs.Ports.{sends_fit, receives_fit, computes_fit}
use Rattle.schedule_model.proofs.laws.ports_have_time.Goals as goal

pub returns-clause-sends : goal.returns-clause-sends
returns-clause-sends c = sends_fit

pub returns-clause-receives : goal.returns-clause-receives
returns-clause-receives c = receives_fit

pub returns-clause-computes : goal.returns-clause-computes
returns-clause-computes c = computes_fit
