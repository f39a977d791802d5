-- The programme of tasking: the most tasks that nodes can compute in a tick.
use Rattle.std.specs.Prelude.{ℤ, pos, length, map, ◌++◌}
use Rattle.platform_file.specs.Ticks.{TimedView}
use Rattle.linear_program.specs.Programmes.{LpView}
use Rattle.tasking_program.specs.declared.columns.Column.{Column}
use Rattle.tasking_program.specs.declared.columns.Column.TheVariants.{Computes, Flows}
use Rattle.tasking_program.specs.declared.rows.Limit.TheVariants.{Compute, Send, Receive, Supply}
use Rattle.tasking_program.specs.Columns.{columns_of}
use Rattle.tasking_program.specs.Rows.{rows_of}

-- a task gains where it is computed
abbrev pub gain_of : Column → ℤ
gain_of (Computes node) = pos 1
gain_of (Flows link) = pos 0

-- the rows of the processors, the send ports, the receive ports and the supplies, in this order
abbrev pub tasking_programme : TimedView → LpView
tasking_programme t = record {
  columns = length (columns_of t);
  rows = rows_of t Compute ++ (rows_of t Send ++ (rows_of t Receive ++ rows_of t Supply));
  gain = map gain_of (columns_of t);
}
