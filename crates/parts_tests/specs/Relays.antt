-- A wiring of three nodes, over which two of them send to the third.
use Rattle.std.specs.Prelude.{List, [], ◌∷◌}
use Rattle.step_core.specs.declared.wiring.Event.{Event}
use Rattle.step_core.specs.declared.wiring.Event.TheVariants.{Take, Open, Close, Done}
use Rattle.step_core.specs.declared.wiring.Lane.{Lane}
use Rattle.step_core.specs.Wirings.{WiringView}

-- from node 0 to node 1, from node 0 to node 2 and from node 1 to node 2, each with room for one task
abbrev pub relay_lanes : List Lane
relay_lanes =
    record { sender = 0; receiver = 1; capacity = 1 } ∷ (record { sender = 0; receiver = 2; capacity = 1 }
    ∷ (record { sender = 1; receiver = 2; capacity = 1 } ∷ []))

-- node 0 sends tasks 0 and 1 to node 1
abbrev pub sends_two : List Event
sends_two = Open 0 0 0 ∷ (Close 0 0 0 ∷ (Open 0 0 1 ∷ (Close 0 0 1 ∷ [])))

-- node 0 sends task 2 to node 2
abbrev pub sends_one : List Event
sends_one = Open 1 1 2 ∷ (Close 1 1 2 ∷ [])

-- node 1 passes task 0 on to node 2, and computes task 3
abbrev pub passes_on : List Event
passes_on = Take 2 0 0 ∷ (Open 2 2 0 ∷ (Close 2 2 0 ∷ (Done 2 3 ∷ [])))

-- the three of them
abbrev pub relay : WiringView
relay = record { nodes = 3; lanes = relay_lanes; programs = sends_two ∷ (sends_one ∷ (passes_on ∷ [])) }
