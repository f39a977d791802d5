use Rattle.std.proofs.Common.{◌≡◌, length}
use Rattle.std.specs.Vec.{vec_capacity}
use Rattle.step_core.specs.States.{IsStateAfter}
use Rattle.rehearsal.specs.Choices.{number_after, IsRehearsed}
use Rattle.rehearsal.proofs.turns.make_all.Given as goal

abbrev pub invariant-loop-made : goal.invariant-loop-made
invariant-loop-made l = record {
  state : IsStateAfter l.wiring l.state l.history.items;
  made : length l.history.items ≡ l._made;
  number : l.number ≡ number_after l.seed l._made;
  chosen : IsRehearsed l.wiring l.seed l.history.items;
  room : vec_capacity l.history ≡ vec_capacity l.fn.history;
}
