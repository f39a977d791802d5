-- What a schedule makes of the columns: what every target gets, and its counts of sends.
use Rattle.std.specs.Prelude.{ℕ, ◌*◌, ◌/◌, Bool, false, ◌&&◌, nat_eq, count_by}
use Rattle.platform_file.specs.Ticks.{TimedView}
use Rattle.schedule_model.specs.declared.schedule.Op.{Op}
use Rattle.schedule_model.specs.declared.schedule.Op.TheVariants.{Send, Compute}
use Rattle.schedule_model.specs.declared.schedule.Series.TheVariants.{Scatter}
use Rattle.schedule_model.specs.declared.schedule.Schedule.{Schedule}
use Rattle.schedule_model.specs.Validity.{completed}
use Rattle.scatter_program.specs.declared.columns.Column.{Column}
use Rattle.scatter_program.specs.declared.columns.Column.TheVariants.{Rate, Flows}
use Rattle.scatter_program.specs.Columns.{columns_of, column_at}

-- the operation moves a message of the kind over the link
abbrev pub moves_over : ℕ → ℕ → Op → Bool
moves_over link kind (Send over own start) = nat_eq own kind && nat_eq over link
moves_over link kind (Compute node start) = false

-- how many messages of a schedule a column stands for: those that every target gets, or those of a kind over a link
abbrev pub operations_in : TimedView → Schedule → Column → ℕ
operations_in t s Rate = completed t Scatter s
operations_in t s (Flows link kind) = count_by (moves_over link kind) s.ops

-- the counts of all columns, times the schedule's ticks in a tick of the platform
abbrev pub counts_of : TimedView → Schedule → ℕ → ℕ
counts_of t s j = operations_in t s (column_at (columns_of t) j) * (s.ticks_per_unit / t.unit)
