-- How many tasks a list of events is of.
use Rattle.std.proofs.Common.{◌≡◌, ℕ, Bool, false, List, length, count_by, filter, ◌∙◌, Option}
use Rattle.std.specs.Option.{option_map_or}
use Rattle.std.proofs.lemmas.List.{length-map}
use Rattle.std.proofs.lemmas.List.Sums.{length-filter}
use Rattle.step_core.specs.declared.wiring.Event.{Event}
use Rattle.step_core.specs.Wirings.{count_on, is_lane}
use Rattle.step_core.specs.Tasks.{task_of, tasks_on}
use Rattle.std.specs.Prelude.{map}

pub tasks_of-length : (p : Event → Bool) (es : List Event) → length (map task_of (filter p es)) ≡ count_by p es
tasks_of-length p es = length-map (filter p es) task_of ∙ length-filter p es

pub tasks_on-length : (role : Event → Option ℕ) (lane : ℕ) (es : List Event) → length (tasks_on role lane es) ≡ count_on role (is_lane lane) es
tasks_on-length role lane es = tasks_of-length (λ e. option_map_or (is_lane lane) (role e) false) es
