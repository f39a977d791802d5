use Rattle.step_core.specs.Wirings.{opening, closing, taking}
use Rattle.step_core.specs.Tasks.{is_done}
use Rattle.step_core.proofs.Tasks.{tasks_on-length, tasks_of-length}
use Rattle.step_core.proofs.laws.tasks_counted.Goals as goal

pub returns-clause-opened : goal.returns-clause-opened
returns-clause-opened c = tasks_on-length opening

pub returns-clause-closed : goal.returns-clause-closed
returns-clause-closed c = tasks_on-length closing

pub returns-clause-taken : goal.returns-clause-taken
returns-clause-taken c = tasks_on-length taking

pub returns-clause-done : goal.returns-clause-done
returns-clause-done c = tasks_of-length is_done
