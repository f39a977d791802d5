-- What becomes of the tasks of a run: each goes its route lane by lane and is computed once.
use Rattle.std.specs.Prelude.{◌≡◌, ℕ, ◌+◌, ◌*◌, ◌<◌, ◌≤◌, ◌^◌, ◌==◌, List, [], length, cond, nat_eq, All, count_by, slice_get, Some}
use Rattle.std.specs.List.{flat_map}
use Rattle.platform_file.specs.Ticks.{TimedView, IsTimed}
use Rattle.schedule_model.specs.declared.schedule.Series.TheVariants.{Tasking}
use Rattle.flow_routes.specs.declared.flow.Route.{Route}
use Rattle.period_table.specs.declared.table.Table.{Table}
use Rattle.period_table.specs.Lanes.{lanes_of, lane_at}
use Rattle.period_table.specs.Tables.{Fits}
use Rattle.step_core.specs.declared.wiring.Event.{Event}
use Rattle.step_core.specs.declared.wiring.Event.TheVariants.{Take, Open, Close, Done}
use Rattle.step_core.specs.declared.wiring.Lane.{Lane}
use Rattle.step_core.specs.Wirings.{WiringView, program_of}
use Rattle.step_core.specs.Tasks.{tasks_opened, tasks_closed, tasks_taken, tasks_done}
use Rattle.actor_programs.specs.declared.actor.Actor.{Actor}
use Rattle.actor_programs.specs.declared.actor.Actor.TheVariants.{Sender, Consumer}
use Rattle.actor_programs.specs.Tasks.{count_of, offset_of, end_at}
use Rattle.actor_programs.specs.Programs.{actors_of, wiring_of}

-- each lane that a piece names has a number of 32 bits
abbrev pub HasNumbers : Table → Type 0
HasNumbers table = All (λ slot. All (λ piece. piece.lane < 2 ^ 32) slot.pieces) table.slots

-- the table can be run with so many chunks
pub record CanRun (t : TimedView) (table : Table) (chunks : ℕ) : Type 0 where
  pub timed : IsTimed t
  pub fits : Fits t Tasking table
  pub some : table.tasks ≡ 0 → chunks ≡ 0

-- the task exists, and its place in its batch is one of the route's
abbrev pub IsOfRoute : Table → ℕ → ℕ → ℕ → Type 0
IsOfRoute table chunks route task =
    (batch : ℕ) × (i : ℕ) × (i < count_of table.routes route) × (task ≡ (batch * table.tasks + offset_of table.routes route) + i) × (task < chunks)

-- who opens and closes a lane: the sender of its link
abbrev pub opener_of : List Route → ℕ → Actor
opener_of routes lane = Sender (lane_at (lanes_of routes) lane).link

-- who takes from a lane: the sender of the route's next hop, or the consumer at its end where no hop follows
abbrev pub taker_of : List Route → ℕ → Actor
taker_of routes lane =
    let next = lane_at (lanes_of routes) (lane + 1) in
    cond (nat_eq next.hop 0) (Consumer (end_at routes lane)) (Sender next.link)

-- the actor with a number
abbrev pub IsActor : TimedView → Table → ℕ → Actor → Type 0
IsActor t table number actor = slice_get (actors_of t table) number ≡ Some actor

-- the tasks of a lane's route are opened, closed and taken on it, in order, by its two actors and nobody else
pub record IsCarried (t : TimedView) (table : Table) (chunks lane : ℕ) (tasks : List ℕ) : Type 0 where
  pub opener : (a : ℕ) × IsActor t table a (opener_of table.routes lane)
  pub taker : (a : ℕ) × IsActor t table a (taker_of table.routes lane)
  pub opened : (a : ℕ) → IsActor t table a (opener_of table.routes lane) → tasks_opened lane (program_of (wiring_of t table chunks) a) ≡ tasks
  pub closed : (a : ℕ) → IsActor t table a (opener_of table.routes lane) → tasks_closed lane (program_of (wiring_of t table chunks) a) ≡ tasks
  pub taken : (a : ℕ) → IsActor t table a (taker_of table.routes lane) → tasks_taken lane (program_of (wiring_of t table chunks) a) ≡ tasks
  pub no_other_opens : (a : ℕ) → (IsActor t table a (opener_of table.routes lane) → ⊥) → tasks_opened lane (program_of (wiring_of t table chunks) a) ≡ []
  pub no_other_closes : (a : ℕ) → (IsActor t table a (opener_of table.routes lane) → ⊥) → tasks_closed lane (program_of (wiring_of t table chunks) a) ≡ []
  pub no_other_takes : (a : ℕ) → (IsActor t table a (taker_of table.routes lane) → ⊥) → tasks_taken lane (program_of (wiring_of t table chunks) a) ≡ []

-- the event sends the task on, or computes it
abbrev pub IsUse : ℕ → Event → Type 0
IsUse task (Take a l t) = ⊥
IsUse task (Open a l t) = t ≡ task
IsUse task (Close a l t) = ⊥
IsUse task (Done a t) = t ≡ task

-- each Take is directly followed by the Open or the Done of its task
abbrev pub UsesAtOnce : List Event → Type 0
UsesAtOnce es = (i a l t : ℕ) → slice_get es i ≡ Some (Take a l t) → (e : Event) × (slice_get es (i + 1) ≡ Some e) × IsUse t e

-- the tasks that are computed, actor by actor
abbrev pub computed_by : WiringView → List ℕ
computed_by w = flat_map tasks_done w.programs

-- each chunk's task is computed once, and no other
pub record ComputesAll (w : WiringView) (chunks : ℕ) : Type 0 where
  pub once : (task : ℕ) → task < chunks → count_by (λ t. t == task) (computed_by w) ≡ 1
  pub exist : All (λ task. task < chunks) (computed_by w)
  pub as_many : length (computed_by w) ≡ chunks

-- a lane's room is from 1 to 4,000,000 tasks
abbrev pub IsRoomy : Lane → Type 0
IsRoomy lane = (1 ≤ lane.capacity) × (lane.capacity ≤ 4000000)
