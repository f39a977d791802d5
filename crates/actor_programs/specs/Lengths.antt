-- How long programs are.
use Rattle.std.specs.Prelude.{ℕ, ◌+◌, ◌*◌, List, [], ◌∷◌, length, sum_by}
use Rattle.step_core.specs.declared.wiring.Event.{Event}
use Rattle.actor_programs.specs.declared.run.Run.{Run}
use Rattle.actor_programs.specs.Tasks.{all_tasks}
use Rattle.actor_programs.specs.Runs.{task_events, events_below}

-- how many events a run has in all periods
abbrev pub run_length : ℕ → ℕ → Run → ℕ
run_length tasks chunks run = length (task_events 0 run 0) * length (all_tasks tasks chunks run.offset run.count)

-- how many events an actor has
abbrev pub program_length : ℕ → ℕ → List Run → ℕ
program_length tasks chunks runs = sum_by (run_length tasks chunks) runs

-- the programs of some runs, for actors numbered from one on
abbrev pub programs_from : ℕ → ℕ → ℕ → ℕ → List (List Run) → List (List Event)
programs_from tasks chunks periods number [] = []
programs_from tasks chunks periods number (runs ∷ patterns) = events_below tasks chunks number runs periods ∷ programs_from tasks chunks periods (number + 1) patterns
