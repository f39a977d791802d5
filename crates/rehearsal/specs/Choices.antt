-- Which actor makes each event of a rehearsal, as its seed decides.
use Rattle.std.specs.Prelude.{◌≡◌, ℕ, zero, suc, ◌+◌, ◌*◌, ◌/◌, ◌%◌, ◌^◌, ◌<◌, List, length, take, slice_get, Some}
use Rattle.step_core.specs.declared.wiring.Event.{Event}
use Rattle.step_core.specs.Wirings.{WiringView}
use Rattle.step_core.specs.Histories.{IsEnabled}

-- the number that follows another
abbrev pub turned : ℕ → ℕ
turned x = (x * 6364136223846793005 + 1442695040888963407) % 2 ^ 64

-- the number that a seed has become after so many turns
abbrev pub number_after : ℕ → ℕ → ℕ
number_after seed zero = seed
number_after seed (suc turns) = turned (number_after seed turns)

-- the one of so many actors that a number draws
abbrev pub drawn_by : ℕ → ℕ → ℕ
drawn_by actors x = (x / 2 ^ 33) % actors

-- the actor that is tried once so many others, cyclically from the first, have been tried
abbrev pub tried_after : ℕ → ℕ → ℕ → ℕ
tried_after actors first others = (first + others) % actors

-- the event is enabled at an actor, and none is at those that are tried before it
pub record IsFirstFrom (w : WiringView) (h : List Event) (first : ℕ) (e : Event) : Type 0 where
  pub others : ℕ
  pub enabled : IsEnabled w h (tried_after (length w.programs) first others) e
  pub before : (other : ℕ) (earlier : Event) → other < others → IsEnabled w h (tried_after (length w.programs) first other) earlier → ⊥

-- the next event of the first actor, cyclically from the one that a number draws, whose next event keeps the history legal
abbrev pub IsChosen : WiringView → List Event → ℕ → Event → Type 0
IsChosen w h x e = IsFirstFrom w h (drawn_by (length w.programs) x) e

-- the event at each place k, from 0, is chosen after the k events before it, by the number that the seed has become after k + 1 turns
abbrev pub IsRehearsed : WiringView → ℕ → List Event → Type 0
IsRehearsed w seed h = (k : ℕ) (e : Event) → slice_get h k ≡ Some e → IsChosen w (take k h) (number_after seed (k + 1)) e
