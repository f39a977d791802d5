use Rattle.std.proofs.Common.{◌≡◌, ℕ, ◌<◌, ◌≢◌, get_or, List, Option, Some}
use Rattle.bipartite_slots.specs.Squares.{SquareView, cell}
use Rattle.bipartite_slots.specs.Searches.{holder}
use Rattle.bipartite_slots.specs.Choices.{Excludes}
use Rattle.bipartite_slots.proofs.choice.settle.Given as goal

pub record IsTrying (square : SquareView) (items : List ℕ) (index : ℕ) (first now : List (Option ℕ)) (row : ℕ) : Type 0 where
  pub unchanged : now ≡ first
  pub not_yet : (k : ℕ) → k < index → holder first (get_or items k 0) ≢ Some row
  pub excluded : (k : ℕ) → k < index → Excludes square.size (cell square) first row (get_or items k 0)

abbrev pub invariant-loop-column : goal.invariant-loop-column
invariant-loop-column l = IsTrying l.square l.column-items l.column-index l.initial.holders l.holders l.row
