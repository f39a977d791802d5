-- A chain of three nodes, each of which but the first computes one of the two tasks of a batch.
use Rattle.std.proofs.Common.{◌≡◌, [], ◌∷◌, refl}
use Rattle.step_core.specs.declared.wiring.Event.TheVariants.{Take, Open, Close, Done}
use Rattle.period_table.specs.declared.table.Table.{Table}
use Rattle.actor_programs.specs.declared.actor.Actor.TheVariants.{Sender, Consumer}
use Rattle.actor_programs.specs.Tasks.{route_tasks}
use Rattle.actor_programs.specs.Programs.{run_periods, program_from, periods_from, capacity_of}
use Rattle.actor_programs.specs.Carried.{taker_of}

-- node 0 sends over link 0 to node 1, and this over link 1 to node 2
abbrev chain : Table
chain = record {
  period = 2;
  tasks = 2;
  depth = 2;
  routes = record { kind = 0; end = 1; links = 0 ∷ []; count = 1 } ∷ (record { kind = 0; end = 2; links = 0 ∷ (1 ∷ []); count = 1 } ∷ []);
  slots =
      record { duration = 1; pieces = record { lane = 0; count = 1 } ∷ (record { lane = 2; count = 1 } ∷ []) }
      ∷ (record { duration = 1; pieces = record { lane = 1; count = 1 } ∷ [] } ∷ []);
}

-- of three chunks the first and the last are computed at node 1
near : route_tasks chain 3 0 ≡ 0 ∷ (2 ∷ [])
near = refl

-- and the second at node 2
far : route_tasks chain 3 1 ≡ 1 ∷ []
far = refl

periods : run_periods chain 3 ≡ 4
periods = refl

-- the sender of the second link has one task to send on
relay : program_from chain 3 1 (Sender 1) ≡ Take 1 1 1 ∷ (Open 1 2 1 ∷ (Close 1 2 1 ∷ []))
relay = refl

-- a period after it was sent to node 1
relay_periods : periods_from chain 3 1 (Sender 1) ≡ 1 ∷ (1 ∷ (1 ∷ []))
relay_periods = refl

-- the first link carries both routes
first : program_from chain 3 0 (Sender 0) ≡ Open 0 0 0 ∷ (Close 0 0 0 ∷ (Open 0 1 1 ∷ (Close 0 1 1 ∷ (Open 0 0 2 ∷ (Close 0 0 2 ∷ [])))))
first = refl

-- what comes to node 1 over its lane is computed there
computed : program_from chain 3 2 (Consumer 1) ≡ Take 2 0 0 ∷ (Done 2 0 ∷ (Take 2 0 2 ∷ (Done 2 2 ∷ [])))
computed = refl

-- the lane of two tasks has room for both
room : capacity_of chain 3 0 ≡ 2
room = refl

little_room : capacity_of chain 3 2 ≡ 1
little_room = refl

taken_on : taker_of chain.routes 1 ≡ Sender 1
taken_on = refl

taken_last : taker_of chain.routes 2 ≡ Consumer 2
taken_last = refl
