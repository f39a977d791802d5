-- What a schedule makes of the columns: its counts of computations and sends.
use Rattle.std.specs.Prelude.{ℕ, ◌*◌, ◌/◌, Bool, false, nat_eq, count_by}
use Rattle.platform_file.specs.Ticks.{TimedView}
use Rattle.schedule_model.specs.declared.schedule.Op.{Op}
use Rattle.schedule_model.specs.declared.schedule.Op.TheVariants.{Send, Compute}
use Rattle.schedule_model.specs.declared.schedule.Schedule.{Schedule}
use Rattle.schedule_model.specs.Operations.{computes_at}
use Rattle.tasking_program.specs.declared.columns.Column.{Column}
use Rattle.tasking_program.specs.declared.columns.Column.TheVariants.{Computes, Flows}
use Rattle.tasking_program.specs.Columns.{columns_of, column_at}

-- the operation moves a task over the link
abbrev pub moves_over : ℕ → Op → Bool
moves_over link (Send over kind start) = nat_eq over link
moves_over link (Compute node start) = false

-- how many operations of a schedule a column stands for
abbrev pub operations_in : Schedule → Column → ℕ
operations_in s (Computes node) = count_by (computes_at node) s.ops
operations_in s (Flows link) = count_by (moves_over link) s.ops

-- the counts of all columns, times the schedule's ticks in a tick of the platform
abbrev pub counts_of : TimedView → Schedule → ℕ → ℕ
counts_of t s j = operations_in s (column_at (columns_of t) j) * (s.ticks_per_unit / t.unit)
