-- What an actor does with some tasks of each batch, and its program.
use Rattle.std.specs.Prelude.{ℕ, ◌-◌, List, [], ◌∷◌, ◌++◌, map, cond, nat_le, Option, Some, None}
use Rattle.std.specs.List.{flat_map}
use Rattle.step_core.specs.declared.wiring.Event.{Event}
use Rattle.step_core.specs.declared.wiring.Event.TheVariants.{Take, Open, Close, Done}
use Rattle.actor_programs.specs.declared.run.Run.{Run}
use Rattle.actor_programs.specs.Tasks.{tasks_of_batch, joined_below}

-- how a task comes to an actor
abbrev pub taken : ℕ → Option ℕ → ℕ → List Event
taken actor None task = []
taken actor (Some lane) task = Take actor lane task ∷ []

-- what becomes of it
abbrev pub used : ℕ → Option ℕ → ℕ → List Event
used actor None task = Done actor task ∷ []
used actor (Some lane) task = Open actor lane task ∷ (Close actor lane task ∷ [])

-- an actor's events for a task
abbrev pub task_events : ℕ → Run → ℕ → List Event
task_events actor run task = taken actor run.take task ++ used actor run.lane task

-- the tasks of a run in a period, where a batch is at its place
abbrev pub run_tasks : ℕ → ℕ → ℕ → Run → List ℕ
run_tasks tasks chunks period run = cond (nat_le run.hop period) (tasks_of_batch tasks chunks (period - run.hop) run.offset run.count) []

-- the events of a period
abbrev pub period_events : ℕ → ℕ → ℕ → List Run → ℕ → List Event
period_events tasks chunks actor runs period = flat_map (λ run. flat_map (task_events actor run) (run_tasks tasks chunks period run)) runs

-- the events of the first periods
abbrev pub events_below : ℕ → ℕ → ℕ → List Run → ℕ → List Event
events_below tasks chunks actor runs n = joined_below (period_events tasks chunks actor runs) n

-- the period of each of the elements of some lists joined
abbrev pub numbers_below : {X : Type 0} → (ℕ → List X) → ℕ → List ℕ
numbers_below f n = joined_below (λ p. map (λ x. p) (f p)) n
