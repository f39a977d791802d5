use Rattle.std.proofs.Common.{◌≡◌, ℕ, ◌+◌, ◌*◌, ◌<◌, true, get_or, List, Bool, Option}
use Rattle.bipartite_slots.specs.Squares.{SquareView, cell}
use Rattle.bipartite_slots.specs.Searches.{is_seen, unseen, Searched}
use Rattle.bipartite_slots.proofs.search.+placing.Given as goal

abbrev pub decreases-place : goal.decreases-place
decreases-place l = 2 * unseen l.seen.now + 1

abbrev pub decreases-seat : goal.decreases-seat
decreases-seat l = 2 * unseen l.seen.now

pub record IsSearching (square : SquareView) (row : ℕ) (items : List ℕ) (index : ℕ) (first now : List (Option ℕ)) (old new : List Bool) : Type 0 where
  pub unchanged : now ≡ first
  pub searched : Searched (cell square) first old new
  pub passed : (k : ℕ) → k < index → 0 < cell square row (get_or items k 0) → is_seen new (get_or items k 0) ≡ true

abbrev pub invariant-place-loop-column : goal.invariant-place-loop-column
invariant-place-loop-column l = IsSearching l.square l.row l.column-items l.column-index l.initial.holders l.holders l.initial.seen l.seen
