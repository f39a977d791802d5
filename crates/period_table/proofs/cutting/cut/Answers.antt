use Rattle.std.proofs.Common.{◌≡◌, ◌+◌, ◌<◌, [], All, length, slice_index, refl, ◌∙◌, arith}
use Rattle.std.proofs.lemmas.List.{get_or-replicate}
use Rattle.std.proofs.lemmas.List.Elements.{All-weaker}
use Rattle.period_table.specs.Lanes.{LaneAt, lanes_of}
use Rattle.period_table.specs.Cuts.{room_in, pieces_from}
use Rattle.period_table.proofs.PieceSteps.{same_pieces, part_cut, time_more}
use Rattle.period_table.proofs.cutting.cut.Goals as goal

pub loop-part-init : goal.loop-part-init
loop-part-init c = ((λ link. 0), refl, (λ link l. get_or-replicate 128 link 0 0 l), (λ link. omega arith), rw c.new-slots.ensures refl)

pub add_rooms-requires-clause-room : goal.add_rooms-requires-clause-room
add_rooms-requires-clause-room c = λ link l.
    let most = time_more c.args.timed.now (lanes_of c.args.routes.now) c.args.parts.now c.loop-part.part-index c.part-item.result c.loop-part-test.true c.part-item.is c.loop-part.invariant.0 _ link (c.loop-part.invariant.3 link) in
    rw (c.loop-part.invariant.2 link l, c.rooms_in-rooms.ensures.value link l) (omega (arith, most, c.requires.time))

pub loop-part-preserved : goal.loop-part-preserved
loop-part-preserved c =
    let before = c.loop-part.invariant.0 in
    let part = c.part-item.result in
    let lanes : c.as_slice.result.now ≡ lanes_of c.args.routes.now = c.as_slice.ensures ∙ c.in_ok-lanes.ensures in
    let few : All (λ (lane : LaneAt). lane.link < 128) (lanes_of c.args.routes.now) =
    All-weaker (λ (lane : LaneAt). lane.link < length c.args.timed.now.platform.links) (λ lane. lane.link < 128) (λ lane exists. omega (arith, exists, c.known.ensures.platform.few_links)) (lanes_of c.args.routes.now) c.requires.exist in
    let cut : c.in_ok-pieces.pieces ≡ pieces_from before (room_in c.args.timed.now part) 0 [] (lanes_of c.args.routes.now) =
    rw lanes at c.in_ok-pieces.ensures
    ∙ same_pieces (slice_index c.loop-part.moved) before (slice_index c.rooms_in-rooms.result) (room_in c.args.timed.now part) 0 [] (lanes_of c.args.routes.now) few c.loop-part.invariant.2 c.rooms_in-rooms.ensures.value in (
      (λ link. before link + room_in c.args.timed.now part link),
      c.add_rooms.ensures.firsts,
      (λ link l. c.add_rooms.ensures.sums link l ∙ rw (c.loop-part.invariant.2 link l, c.rooms_in-rooms.ensures.value link l) refl),
      (λ link. time_more c.args.timed.now (lanes_of c.args.routes.now) c.args.parts.now c.loop-part.part-index part c.loop-part-test.true c.part-item.is before _ link (c.loop-part.invariant.3 link)),
      part_cut c.args.timed.now (lanes_of c.args.routes.now) c.args.parts.now c.loop-part.part-index part c.loop-part-test.true c.part-item.is before _ c.loop-part.slots _ c.in_ok-pieces.pieces c.loop-part.invariant.4 cut c.in_ok-push.ensures.ok,
    )
