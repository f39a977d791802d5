use Rattle.step_core.specs.States.{IsStateOf}
use Rattle.parts_tests.proofs.tests.steps.walks.Given as goal

abbrev pub invariant-loop-row : goal.invariant-loop-row
invariant-loop-row l = IsStateOf l.wiring l.state
