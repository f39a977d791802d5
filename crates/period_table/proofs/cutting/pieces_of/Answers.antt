use Rattle.std.proofs.Common.{◌≡◌, ℕ, ◌+◌, ◌<◌, ◌≤◌, ◌++◌, true, false, [], ◌∷◌, nat_eq, slice_index, refl, sym, ◌∙◌, ap, arith}
use Rattle.std.proofs.lemmas.Bool.Decides.{nat_tests}
use Rattle.std.proofs.lemmas.List.{get_or-replicate, length-set, append-nil}
use Rattle.std.proofs.lemmas.List.Elements.{All-get_or}
use Rattle.period_table.specs.Lanes.{LaneAt}
use Rattle.period_table.specs.Cuts.{carried_on, overlap, piece_of}
use Rattle.period_table.proofs.Steps.{noted_more}
use Rattle.period_table.proofs.PieceSteps.{link_of, count_of, piece_cut, counts_more, counts_within}
use Rattle.period_table.proofs.cutting.pieces_of.Goals.{then-count-gt0+in_ok-push, else-count-gt0}
use Rattle.period_table.proofs.cutting.pieces_of.Goals as goal

pub loop-lane-init : goal.loop-lane-init
loop-lane-init c = ([], refl, refl, (λ link l. get_or-replicate 128 link 0 0 l), omega arith, rw c.new-pieces.ensures refl)

-- a piece with something in it, and one with nothing
some_piece : (lane count : ℕ) → 0 < count → piece_of lane count ≡ record { lane = lane; count = count } ∷ []
some_piece lane count some = let t : nat_eq count 0 ≡ false = grind (arith, nat_tests) in rw t refl

no_piece : (lane count : ℕ) → count ≤ 0 → piece_of lane count ≡ []
no_piece lane count none = let t : nat_eq count 0 ≡ true = grind (arith, nat_tests) in rw t refl

pub overlap-count-requires-clause-range : goal.overlap-count-requires-clause-range
overlap-count-requires-clause-range c =
    let lane = c.lane-item.result in
    let at : c.lane.inside.link ≡ lane.link = ap (λ (one : LaneAt). one.link) c.lane.view_is in
    let count : c.lane.inside.count ≡ lane.count = ap (λ (one : LaneAt). one.count) c.lane.view_is in
    let exists : lane.link < 128 = rw (sym c.lane-item.is) at (All-get_or (λ (one : LaneAt). one.link < 128) c.args.lanes.now c.loop-lane.lane-index lane c.loop-lane-test.true c.requires.links) in
    let few = counts_within c.args.lanes.now c.loop-lane.lane-index lane c.loop-lane-test.true c.lane-item.is c.loop-lane.invariant.0 _ c.loop-lane.invariant.4 lane.link in
    rw (at, count, c.loop-lane.invariant.3 lane.link exists) (omega (arith, few, c.requires.short))

pub overflow_add-before : goal.overflow_add-before
overflow_add-before c =
    let lane = c.lane-item.result in
    let at : c.lane.inside.link ≡ lane.link = ap (λ (one : LaneAt). one.link) c.lane.view_is in
    let count : c.lane.inside.count ≡ lane.count = ap (λ (one : LaneAt). one.count) c.lane.view_is in
    let exists : lane.link < 128 = rw (sym c.lane-item.is) at (All-get_or (λ (one : LaneAt). one.link < 128) c.args.lanes.now c.loop-lane.lane-index lane c.loop-lane-test.true c.requires.links) in
    let few = counts_within c.args.lanes.now c.loop-lane.lane-index lane c.loop-lane-test.true c.lane-item.is c.loop-lane.invariant.0 _ c.loop-lane.invariant.4 lane.link in
    rw (at, count, c.loop-lane.invariant.3 lane.link exists) (record { fits = omega (arith, few, c.requires.short) })

pub loop-lane-preserved : goal.loop-lane-preserved
loop-lane-preserved c =
    let lane = c.lane-item.result in
    let before = c.loop-lane.invariant.0 in
    let k = c.loop-lane.lane-index in
    let at : c.lane.inside.link ≡ lane.link = ap (λ (one : LaneAt). one.link) c.lane.view_is in
    let count : c.lane.inside.count ≡ lane.count = ap (λ (one : LaneAt). one.count) c.lane.view_is in
    let exists : lane.link < 128 = rw (sym c.lane-item.is) at (All-get_or (λ (one : LaneAt). one.link < 128) c.args.lanes.now k lane c.loop-lane-test.true c.requires.links) in
    let taken : c.overlap-count.result ≡ overlap (carried_on lane.link before) lane.count (slice_index c.args.first.now lane.link) (slice_index c.args.rooms.now lane.link) = rw (at, count, c.loop-lane.invariant.3 lane.link exists) at c.overlap-count.ensures in
    let out : c.if-count-gt0.pieces ≡ c.loop-lane.pieces ++ piece_of k (overlap (carried_on lane.link before) lane.count (slice_index c.args.first.now lane.link) (slice_index c.args.rooms.now lane.link)) = (elim c.if-count-gt0.branch [
      | then-count-gt0+in_ok-push w ↦ rw (sym taken, some_piece k c.overlap-count.result w.if-count-gt0.true) (w.pieces-is ∙ rw c.loop-lane.invariant.2 at w.in_ok-push.ensures.ok)
      | else-count-gt0 w ↦ rw (sym taken, no_piece k c.overlap-count.result w.if-count-gt0.false, append-nil c.loop-lane.pieces) w.pieces-is
    ]) in (
      lane ∷ before,
      length-set c.loop-lane.before _ _ ∙ c.loop-lane.invariant.1,
      ap (λ n. n + 1) c.loop-lane.invariant.2,
      rw (at, count) (noted_more link_of count_of before lane c.loop-lane.before 128 (omega (arith, c.loop-lane.invariant.1)) exists c.loop-lane.invariant.3),
      counts_more c.args.lanes.now k lane c.loop-lane-test.true c.lane-item.is before _ c.loop-lane.invariant.4,
      piece_cut c.args.lanes.now k lane c.loop-lane-test.true c.lane-item.is (slice_index c.args.first.now) (slice_index c.args.rooms.now) before _ c.loop-lane.pieces _ c.loop-lane.invariant.5 out,
    )
