use Rattle.std.proofs.Common.{◌≡◌, ℕ, ◌+◌, ◌^◌, ◌<◌, length, take, get_or, min, cond, nat_eq, sum_by}
use Rattle.period_table.proofs.moving.add_pieces.Given as goal

abbrev pub invariant-loop-piece : goal.invariant-loop-piece
invariant-loop-piece l = record {
  size : length l.moved ≡ 512;
  sums : (k : ℕ) → k < 512 → min (get_or l.moved k 0) (2 ^ 100 + 1)
      ≡ min (get_or l.fn.moved k 0 + sum_by (λ piece. cond (nat_eq piece.lane (l.first + k)) piece.count 0) (take l.piece-index l.pieces)) (2 ^ 100 + 1);
}
