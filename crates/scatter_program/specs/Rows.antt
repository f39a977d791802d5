-- The rows of the programme of a scatter: how long each port is used in a tick, and what a node gets and passes on of each kind.
-- Source: the steady-state equations of Beaumont, Legrand and Robert.
use Rattle.std.specs.Prelude.{◌<◌, ℕ, zero, suc, Bool, true, not, ℤ, pos, ◌-ℤ◌, nat_eq, List, [], ◌++◌, length}
use Rattle.platform_file.specs.Platform.{is_master}
use Rattle.platform_file.specs.Ticks.{TimedView}
use Rattle.linear_program.specs.Programmes.{RowView}
use Rattle.schedule_model.specs.Operations.{cost_of, sender_of, receiver_of}
use Rattle.programme_rows.specs.Listings.{each_where}
use Rattle.programme_rows.specs.Cells.{where_true, cells_of}
use Rattle.scatter_program.specs.declared.columns.Column.{Column}
use Rattle.scatter_program.specs.declared.columns.Column.TheVariants.{Rate, Flows}
use Rattle.scatter_program.specs.declared.rows.Limit.{Limit}
use Rattle.scatter_program.specs.declared.rows.Limit.TheVariants.{Send, Receive, Supply}
use Rattle.scatter_program.specs.Columns.{target_of, columns_of, column_at}

-- by how much a unit of a column counts in a node's row: in ticks of its port or, for its supply, in messages of the kind
abbrev pub cell_of : TimedView → Limit → ℕ → Column → ℤ
cell_of t Send node Rate = pos 0
cell_of t Send node (Flows link own) = where_true (nat_eq (sender_of t link) node) (pos (cost_of t link))
cell_of t Receive node Rate = pos 0
cell_of t Receive node (Flows link own) = where_true (nat_eq (receiver_of t link) node) (pos (cost_of t link))
cell_of t (Supply kind) node Rate = where_true (nat_eq node (target_of t kind)) (pos 1)
cell_of t (Supply kind) node (Flows link own) =
    where_true (nat_eq own kind) (where_true (nat_eq (sender_of t link) node) (pos 1) -ℤ where_true (nat_eq (receiver_of t link) node) (pos 1))

-- a port is open at most one tick in a tick, and a node keeps and passes on no more of a kind than it gets
abbrev pub side_of : Limit → ℤ
side_of (Supply kind) = pos 0
side_of limit = pos 1

-- which nodes have such a row: all, all, and all but the master
abbrev pub is_limited : TimedView → Limit → ℕ → Bool
is_limited t (Supply kind) node = not (is_master t.platform node)
is_limited t limit node = true

-- the kind of a supply is one that a target wants
abbrev pub HasTarget : TimedView → Limit → Type 0
HasTarget t (Supply kind) = kind < length t.platform.targets
HasTarget t limit = Unit {0}

-- a node's row
abbrev pub row_of : TimedView → Limit → ℕ → RowView
row_of t limit node = record {
  cells = cells_of (λ j. cell_of t limit node (column_at (columns_of t) j)) (length (columns_of t));
  rhs = side_of limit;
}

-- the rows of all nodes that have one
abbrev pub rows_of : TimedView → Limit → List RowView
rows_of t limit = each_where (is_limited t limit) (row_of t limit) (length t.platform.nodes)

-- the supply rows of the kinds below n, kind by kind
abbrev pub supplies_below : TimedView → ℕ → List RowView
supplies_below t zero = []
supplies_below t (suc n) = supplies_below t n ++ rows_of t (Supply n)
