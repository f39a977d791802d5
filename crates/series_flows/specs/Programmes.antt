-- The programme of a series.
use Rattle.std.specs.Prelude.{ℕ, Bool, false, length, nat_eq}
use Rattle.platform_file.specs.Ticks.{TimedView}
use Rattle.schedule_model.specs.declared.schedule.Series.{Series}
use Rattle.schedule_model.specs.declared.schedule.Series.TheVariants.{Tasking, Scatter}
use Rattle.linear_program.specs.Programmes.{LpView}
use Rattle.tasking_program.specs.Programme.{tasking_programme}
use Rattle.scatter_program.specs.Programme.{scatter_programme}

-- the programme whose greatest gain is the best rate of a series, in tasks or messages per tick
abbrev pub programme_of : TimedView → Series → LpView
programme_of t Tasking = tasking_programme t
programme_of t Scatter = scatter_programme t

-- messages have nowhere to go
abbrev pub lacks_targets : TimedView → Series → Bool
lacks_targets t Tasking = false
lacks_targets t Scatter = nat_eq (length t.platform.targets) 0

-- tasks are all of one kind; each target has messages of its own kind
abbrev pub kinds_of : TimedView → Series → ℕ
kinds_of t Tasking = 1
kinds_of t Scatter = length t.platform.targets
