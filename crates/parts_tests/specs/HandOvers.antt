-- A wiring of two nodes, of which one sends a task to the other.
use Rattle.std.specs.Prelude.{ℕ, List, [], ◌∷◌}
use Rattle.step_core.specs.declared.wiring.Event.{Event}
use Rattle.step_core.specs.declared.wiring.Event.TheVariants.{Take, Open, Close, Done}
use Rattle.step_core.specs.declared.wiring.Lane.{Lane}
use Rattle.step_core.specs.Wirings.{WiringView}

-- from node 0 to node 1, with room for one task
abbrev pub one_lane : List Lane
one_lane = record { sender = 0; receiver = 1; capacity = 1 } ∷ []

-- node 0 sends task 0
abbrev pub sends : List Event
sends = Open 0 0 0 ∷ (Close 0 0 0 ∷ [])

-- node 1 computes it
abbrev pub computes : List Event
computes = Take 1 0 0 ∷ (Done 1 0 ∷ [])

-- both of them
abbrev pub hand_over : WiringView
hand_over = record { nodes = 2; lanes = one_lane; programs = sends ∷ (computes ∷ []) }

-- node 0 sends in period 0, and node 1 computes in period 1
abbrev pub hand_over_periods : List (List ℕ)
hand_over_periods = (0 ∷ (0 ∷ [])) ∷ ((1 ∷ (1 ∷ [])) ∷ [])
