-- The rows of the programme of tasking: how long each port is used in a tick, and what a node gets and passes on.
-- Source: the steady-state equations of Beaumont, Legrand and Robert.
use Rattle.std.specs.Prelude.{ℕ, Bool, true, not, ℤ, pos, ◌-ℤ◌, nat_eq, List, length}
use Rattle.platform_file.specs.Platform.{is_master}
use Rattle.platform_file.specs.Ticks.{TimedView}
use Rattle.linear_program.specs.Programmes.{RowView}
use Rattle.programme_rows.specs.Listings.{each_where}
use Rattle.programme_rows.specs.Cells.{where_true, cells_of}
use Rattle.schedule_model.specs.Operations.{cost_of, time_of, sender_of, receiver_of}
use Rattle.tasking_program.specs.declared.columns.Column.{Column}
use Rattle.tasking_program.specs.declared.columns.Column.TheVariants.{Computes, Flows}
use Rattle.tasking_program.specs.declared.rows.Limit.{Limit}
use Rattle.tasking_program.specs.declared.rows.Limit.TheVariants.{Compute, Send, Receive, Supply}
use Rattle.tasking_program.specs.Columns.{computes, columns_of, column_at}

-- by how much a unit of a column counts in a node's row: in ticks of its port or, for its supply, in tasks
abbrev pub cell_of : TimedView → Limit → ℕ → Column → ℤ
cell_of t Compute node (Computes at) = where_true (nat_eq at node) (pos (time_of t at))
cell_of t Compute node (Flows link) = pos 0
cell_of t Send node (Computes at) = pos 0
cell_of t Send node (Flows link) = where_true (nat_eq (sender_of t link) node) (pos (cost_of t link))
cell_of t Receive node (Computes at) = pos 0
cell_of t Receive node (Flows link) = where_true (nat_eq (receiver_of t link) node) (pos (cost_of t link))
cell_of t Supply node (Computes at) = where_true (nat_eq at node) (pos 1)
cell_of t Supply node (Flows link) = where_true (nat_eq (sender_of t link) node) (pos 1) -ℤ where_true (nat_eq (receiver_of t link) node) (pos 1)

-- a port is open at most one tick in a tick, and a node passes on and computes no more than it gets
abbrev pub side_of : Limit → ℤ
side_of Supply = pos 0
side_of limit = pos 1

-- which nodes have such a row: those that compute, all, all, and all but the master
abbrev pub is_limited : TimedView → Limit → ℕ → Bool
is_limited t Compute node = computes t node
is_limited t Supply node = not (is_master t.platform node)
is_limited t limit node = true

-- a node's row
abbrev pub row_of : TimedView → Limit → ℕ → RowView
row_of t limit node = record { cells = cells_of (λ j. cell_of t limit node (column_at (columns_of t) j)) (length (columns_of t)); rhs = side_of limit }

-- the rows of all nodes that have one
abbrev pub rows_of : TimedView → Limit → List RowView
rows_of t limit = each_where (is_limited t limit) (row_of t limit) (length t.platform.nodes)
