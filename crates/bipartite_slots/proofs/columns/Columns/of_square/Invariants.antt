use Rattle.std.proofs.Common.{◌≡◌, length, map}
use Rattle.bipartite_slots.specs.Squares.{cell}
use Rattle.bipartite_slots.proofs.Listing.{ListsRows}
use Rattle.bipartite_slots.proofs.columns.Columns.of_square.Given as goal

abbrev pub invariant-loop-row : goal.invariant-loop-row
invariant-loop-row l = record {
  as_many : length l.rows.items ≡ l.row;
  lists : ListsRows l.square.size (cell l.square) (map (λ row. row.items) l.rows.items);
}
