use Rattle.std.proofs.Common.{◌≡◌, ℕ, ◌+◌, ◌-◌, ◌<◌, ◌⊎◌, All, take, map, slice_index}
use Rattle.period_table.specs.Lanes.{lanes_of}
use Rattle.period_table.specs.Tables.{IsPiece}
use Rattle.period_table.proofs.fitting.is_slot.Given as goal

abbrev pub invariant-loop-piece : goal.invariant-loop-piece
invariant-loop-piece l = record {
  pieces : All (IsPiece (lanes_of l.routes)) (take l.piece-index l.slot.pieces);
  ascending : (k : ℕ) → k + 1 < l.piece-index → slice_index (map (λ piece. piece.lane) l.slot.pieces) k < slice_index (map (λ piece. piece.lane) l.slot.pieces) (k + 1);
  next : ((l.piece-index ≡ 0) × (l.next ≡ 0)) ⊎ ((0 < l.piece-index) × (l.next ≡ slice_index (map (λ piece. piece.lane) l.slot.pieces) (l.piece-index - 1) + 1));
}
