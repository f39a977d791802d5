use Rattle.bipartite_slots.specs.Squares.{cell}
use Rattle.bipartite_slots.proofs.Listing.{ListsBelow}
use Rattle.bipartite_slots.proofs.columns.positive_columns.Given as goal

abbrev pub invariant-loop-column : goal.invariant-loop-column
invariant-loop-column l = ListsBelow (cell l.square l.row) l.column l.columns.items
