-- Which tasks go over a lane, and which are computed.
use Rattle.std.specs.Prelude.{ℕ, Bool, true, false, List, map, filter, Option}
use Rattle.std.specs.Option.{option_map_or}
use Rattle.step_core.specs.declared.wiring.Event.{Event}
use Rattle.step_core.specs.declared.wiring.Event.TheVariants.{Take, Open, Close, Done}
use Rattle.step_core.specs.Wirings.{opening, closing, taking, is_lane}

-- the task that an event is of
abbrev pub task_of : Event → ℕ
task_of (Take a l t) = t
task_of (Open a l t) = t
task_of (Close a l t) = t
task_of (Done a t) = t

-- a task has been computed
abbrev pub is_done : Event → Bool
is_done (Take a l t) = false
is_done (Open a l t) = false
is_done (Close a l t) = false
is_done (Done a t) = true

-- the tasks of the events that do this to a lane, in order
abbrev pub tasks_on : (Event → Option ℕ) → ℕ → List Event → List ℕ
tasks_on role lane es = map task_of (filter (λ e. option_map_or (is_lane lane) (role e) false) es)

-- the tasks whose sends over a lane begin, in order
abbrev pub tasks_opened : ℕ → List Event → List ℕ
tasks_opened lane es = tasks_on opening lane es

-- the tasks whose sends over a lane end, in order
abbrev pub tasks_closed : ℕ → List Event → List ℕ
tasks_closed lane es = tasks_on closing lane es

-- the tasks that are taken off a lane, in order
abbrev pub tasks_taken : ℕ → List Event → List ℕ
tasks_taken lane es = tasks_on taking lane es

-- the tasks that are computed, in order
abbrev pub tasks_done : List Event → List ℕ
tasks_done es = map task_of (filter is_done es)
