use Rattle.std.proofs.Common.{◌≡◌, ℕ, ◌+◌, ◌<◌, ◌≤◌, List, ◌++◌, [], drop, filter, get_or, sum_by, length}
use Rattle.period_table.specs.declared.table.Piece.{Piece}
use Rattle.period_table.specs.TableSchedules.{has_batch, sends_of_pieces, tasks_over}
use Rattle.period_table.proofs.placing.place_pieces.Given as goal

abbrev pub invariant-loop-piece : goal.invariant-loop-piece
invariant-loop-piece l =
    (before : List Piece)
    × (length l.used ≡ 128)
    × ((link : ℕ) → link < 128 → get_or l.used link 0 ≡ tasks_over l.lanes link before)
    × (sum_by (λ piece. piece.count) before + sum_by (λ piece. piece.count) (filter (has_batch l.lanes l.period) (drop l.piece-index l.pieces)) ≤ 4000000)
    × (l.out.items ++ sends_of_pieces l.timed l.lanes l.start before (filter (has_batch l.lanes l.period) (drop l.piece-index l.pieces))
    ≡ l.fn.out.items ++ sends_of_pieces l.timed l.lanes l.start [] (filter (has_batch l.lanes l.period) l.pieces))
