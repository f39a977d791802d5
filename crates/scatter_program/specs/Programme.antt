-- The programme of a scatter: the most messages that every target can get in a tick.
use Rattle.std.specs.Prelude.{ℤ, pos, length, map, ◌++◌}
use Rattle.platform_file.specs.Ticks.{TimedView}
use Rattle.linear_program.specs.Programmes.{LpView}
use Rattle.scatter_program.specs.declared.columns.Column.{Column}
use Rattle.scatter_program.specs.declared.columns.Column.TheVariants.{Rate, Flows}
use Rattle.scatter_program.specs.declared.rows.Limit.TheVariants.{Send, Receive}
use Rattle.scatter_program.specs.Columns.{columns_of}
use Rattle.scatter_program.specs.Rows.{rows_of, supplies_below}

-- the common rate is the gain
abbrev pub gain_of : Column → ℤ
gain_of Rate = pos 1
gain_of (Flows link kind) = pos 0

-- the rows of the send ports, the receive ports and, target by target, the supplies, in this order
abbrev pub scatter_programme : TimedView → LpView
scatter_programme t = record {
  columns = length (columns_of t);
  rows = rows_of t Send ++ (rows_of t Receive ++ supplies_below t (length t.platform.targets));
  gain = map gain_of (columns_of t);
}
