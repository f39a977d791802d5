use Rattle.std.proofs.Common.{◌≡◌, ℕ, ◌+◌, ◌^◌, List, refl, sym, ap, ◌∙◌, arith, take, get_or, min, sum_by, cond, nat_eq}
use Rattle.std.proofs.lemmas.List.{get_or-replicate}
use Rattle.std.proofs.lemmas.List.Sums.{sum_by_more}
use Rattle.period_table.specs.declared.table.Slot.{Slot}
use Rattle.period_table.specs.declared.table.Piece.{Piece}
use Rattle.period_table.specs.Tables.{moved_over}
use Rattle.period_table.proofs.moving.moved_from.Goals as goal

pub loop-slot-init : goal.loop-slot-init
loop-slot-init c = record { size = refl; sums = λ k l. ap (λ n. min n (2 ^ 100 + 1)) (get_or-replicate 512 k 0 0 l) }

pub loop-slot-preserved : goal.loop-slot-preserved
loop-slot-preserved c = record {
  size = c.add_pieces.ensures.size;
  sums = λ k l.
      let pieces = c.as_slice.ensures in
      let sum : ℕ = sum_by (λ (piece : Piece). cond (nat_eq piece.lane (c.args.first + k)) piece.count 0) c.as_slice.result.now in
      let more : min (get_or c.add_pieces.new.moved k 0) (2 ^ 100 + 1) ≡ min (get_or c.loop-slot.moved k 0 + sum) (2 ^ 100 + 1) = c.add_pieces.ensures.sums k l in
      more
      ∙ added (2 ^ 100 + 1) (get_or c.loop-slot.moved k 0) (moved_over (c.args.first + k) (take c.loop-slot.slot-index c.args.slots.now)) sum _ (c.loop-slot.invariant.sums k l)
      (sum_by_more (λ (slot : Slot). sum_by (λ (piece : Piece). cond (nat_eq piece.lane (c.args.first + k)) piece.count 0) slot.pieces) c.args.slots.now c.loop-slot.slot-index c.slot-item.result c.loop-slot-test.true
      ∙ ap (λ (slot : Slot). moved_over (c.args.first + k) (take c.loop-slot.slot-index c.args.slots.now) + sum_by (λ (piece : Piece). cond (nat_eq piece.lane (c.args.first + k)) piece.count 0) slot.pieces) (sym c.slot-item.is)
      ∙ ap (λ (ps : List Piece). moved_over (c.args.first + k) (take c.loop-slot.slot-index c.args.slots.now) + sum_by (λ (piece : Piece). cond (nat_eq piece.lane (c.args.first + k)) piece.count 0) ps) (sym pieces));
}
  where
    added : (bound a b s all : ℕ) → min a bound ≡ min b bound → all ≡ b + s → min (a + s) bound ≡ min all bound
    added bound a b s all e f = omega arith
