use Rattle.std.proofs.Common.{◌≡◌, ℕ, ◌<◌, List, length}
use Rattle.step_core.specs.declared.wiring.Event.{Event}
use Rattle.step_core.specs.States.{IsStateAfter}
use Rattle.step_core.specs.Histories.{IsEnabled}
use Rattle.rehearsal.specs.Choices.{tried_after}
use Rattle.rehearsal.proofs.turns.choose.Given as goal

abbrev pub invariant-loop-tried : goal.invariant-loop-tried
invariant-loop-tried l = record {
  state : l.state ≡ l.fn.state;
  actor : l.actor ≡ tried_after (length l.wiring.programs) l.first l._tried;
  before : (h : List Event) (other : ℕ) (e : Event) → IsStateAfter l.wiring l.state h → other < l._tried
      → IsEnabled l.wiring h (tried_after (length l.wiring.programs) l.first other) e → ⊥;
}
