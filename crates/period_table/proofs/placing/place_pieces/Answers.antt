use Rattle.std.proofs.Common.{◌≡◌, ℕ, ◌+◌, ◌*◌, ◌<◌, ◌≤◌, ◌++◌, true, false, List, [], ◌∷◌, length, All, get_or, slice_set, refl, sym, ◌∙◌, ap, arith}
use Rattle.std.proofs.lemmas.Bool.Decides.{nat_tests}
use Rattle.std.proofs.lemmas.Option.{get_or_from_slice_get}
use Rattle.std.proofs.lemmas.List.{get_or-replicate, length-set, get_or_default}
use Rattle.std.proofs.lemmas.List.Elements.{All-get_or}
use Rattle.platform_file.specs.Ticks.{TimedView}
use Rattle.schedule_model.specs.declared.schedule.Op.TheVariants.{Send}
use Rattle.schedule_model.specs.Operations.{cost_of}
use Rattle.period_table.specs.declared.table.Piece.{Piece}
use Rattle.period_table.specs.Lanes.{LaneAt, lane_at}
use Rattle.period_table.specs.Tables.{IsPiece}
use Rattle.period_table.specs.TableSchedules.{has_batch, tasks_over, one_after_another}
use Rattle.period_table.proofs.Steps.{piece_placed, count_moved, few_so_far, noted_more, none_left_out, total, left_from, link_of, tasks_of, are_short}
use Rattle.period_table.proofs.placing.place_pieces.Goals.{then-from-period+in_ok-place_sends, else-from-period}
use Rattle.period_table.proofs.placing.place_pieces.Goals as goal

abbrev nothing : Piece
nothing = record { lane = 0; count = 0 }

-- the lane that is read is the one that the definitions look up
found : (lanes : List LaneAt) (pieces : List Piece) (k : ℕ) (lane : LaneAt) → All (IsPiece lanes) pieces → k < length pieces →
    lane ≡ get_or lanes (get_or pieces k nothing).lane lane → lane ≡ lane_at lanes (get_or pieces k nothing).lane
found lanes pieces k lane exist l e =
    e ∙ get_or_default lanes (get_or pieces k nothing).lane lane (record { link = 0; hop = 0; kind = 0; count = 0 }) (All-get_or (IsPiece lanes) pieces k nothing l exist).lane

keeps : (lanes : List LaneAt) (period : ℕ) (piece : Piece) (hop : ℕ) → hop ≡ (lane_at lanes piece.lane).hop → hop ≤ period → has_batch lanes period piece ≡ true
keeps lanes period piece hop e l = grind (arith, nat_tests)

drops : (lanes : List LaneAt) (period : ℕ) (piece : Piece) (hop : ℕ) → hop ≡ (lane_at lanes piece.lane).hop → period < hop → has_batch lanes period piece ≡ false
drops lanes period piece hop e l = grind (arith, nat_tests)

-- what is known where a piece is placed
module _ (t : TimedView) (lanes : List LaneAt) (start period : ℕ) (pieces : List Piece) (k : ℕ) (l : k < length pieces) (before : List Piece) (used : List ℕ)
    (noted : (link : ℕ) → link < 128 → get_or used link 0 ≡ tasks_over lanes link before) (few : total (link_of lanes) tasks_of before + total (link_of lanes) tasks_of (left_from (link_of lanes) tasks_of (has_batch lanes period) pieces k nothing l k) ≤ 4000000) (hop link : ℕ)
    (hop_is : hop ≡ (lane_at lanes (get_or pieces k nothing).lane).hop) (come : hop ≤ period)
    (at : link ≡ (lane_at lanes (get_or pieces k nothing).lane).link) (exists : link < 128) where
  is_here : has_batch lanes period (get_or pieces k nothing) ≡ true
  is_here = keeps lanes period (get_or pieces k nothing) hop hop_is come

  used_few : get_or used link 0 + (get_or pieces k nothing).count ≤ 4000000
  used_few = rw (noted link exists) (few_so_far (link_of lanes) tasks_of (has_batch lanes period) pieces k nothing l is_here before link few)

links_few : (lanes : List LaneAt) (pieces : List Piece) (k links : ℕ) → All (λ lane. lane.link < links) lanes → links ≤ 128 → All (IsPiece lanes) pieces → k < length pieces →
    (lane_at lanes (get_or pieces k nothing).lane).link < 128
links_few lanes pieces k links exist few are l =
    let inside = (All-get_or (IsPiece lanes) pieces k nothing l are).lane in
    let is : (lane_at lanes (get_or pieces k nothing).lane).link < links = All-get_or (λ (lane : LaneAt). lane.link < links) lanes (get_or pieces k nothing).lane (record { link = 0; hop = 0; kind = 0; count = 0 }) inside exist in
    omega (arith, is, few)

pub loop-piece-init : goal.loop-piece-init
loop-piece-init c = ([], refl, (λ link l. get_or-replicate 128 link 0 0 l), omega (arith, c.requires.few), refl)

pub overflow_add-used : goal.overflow_add-used
overflow_add-used c =
    let lanes = c.args.lanes.now in
    let k = c.loop-piece.piece-index in
    let is = c.lane.view_is ∙ found lanes c.args.pieces.now k c.index-lanes-piece.result c.requires.exist c.loop-piece-test.true c.index-lanes-piece.is in
    let at : c.lane.inside.link ≡ (lane_at lanes (get_or c.args.pieces.now k nothing).lane).link = ap (λ (lane : LaneAt). lane.link) is in
    let hop : c.lane.inside.hop ≡ (lane_at lanes (get_or c.args.pieces.now k nothing).lane).hop = ap (λ (lane : LaneAt). lane.hop) is in
    let exists : c.lane.inside.link < 128 = rw at (links_few lanes c.args.pieces.now k _ c.requires.links c.known.ensures.platform.few_links c.requires.exist c.loop-piece-test.true) in
    let few = used_few c.args.timed.now lanes c.args.start c.args.period c.args.pieces.now k c.loop-piece-test.true c.loop-piece.invariant.0 c.loop-piece.used c.loop-piece.invariant.2 c.loop-piece.invariant.3
    c.lane.inside.hop c.lane.inside.link hop (rw c.from.ensures at c.if-from-period.true) at exists in
    let fine = are_short c.args.start (get_or c.loop-piece.used c.lane.inside.link 0) c.cost-lasts.result (get_or c.args.pieces.now k nothing).count c.requires.short c.cost-lasts.type_inv few in
    record { fits = fine.more }

pub overflow_mul-begin : goal.overflow_mul-begin
overflow_mul-begin c =
    let lanes = c.args.lanes.now in
    let k = c.loop-piece.piece-index in
    let is = c.lane.view_is ∙ found lanes c.args.pieces.now k c.index-lanes-piece.result c.requires.exist c.loop-piece-test.true c.index-lanes-piece.is in
    let at : c.lane.inside.link ≡ (lane_at lanes (get_or c.args.pieces.now k nothing).lane).link = ap (λ (lane : LaneAt). lane.link) is in
    let hop : c.lane.inside.hop ≡ (lane_at lanes (get_or c.args.pieces.now k nothing).lane).hop = ap (λ (lane : LaneAt). lane.hop) is in
    let exists : c.lane.inside.link < 128 = rw at (links_few lanes c.args.pieces.now k _ c.requires.links c.known.ensures.platform.few_links c.requires.exist c.loop-piece-test.true) in
    let few = used_few c.args.timed.now lanes c.args.start c.args.period c.args.pieces.now k c.loop-piece-test.true c.loop-piece.invariant.0 c.loop-piece.used c.loop-piece.invariant.2 c.loop-piece.invariant.3
    c.lane.inside.hop c.lane.inside.link hop (rw c.from.ensures at c.if-from-period.true) at exists in
    let fine = are_short c.args.start (get_or c.loop-piece.used c.lane.inside.link 0) c.cost-lasts.result (get_or c.args.pieces.now k nothing).count c.requires.short c.cost-lasts.type_inv few in
    rw c.from-then-from-period.ensures (record { fits = fine.product })

pub overflow_add-begin : goal.overflow_add-begin
overflow_add-begin c =
    let lanes = c.args.lanes.now in
    let k = c.loop-piece.piece-index in
    let is = c.lane.view_is ∙ found lanes c.args.pieces.now k c.index-lanes-piece.result c.requires.exist c.loop-piece-test.true c.index-lanes-piece.is in
    let at : c.lane.inside.link ≡ (lane_at lanes (get_or c.args.pieces.now k nothing).lane).link = ap (λ (lane : LaneAt). lane.link) is in
    let hop : c.lane.inside.hop ≡ (lane_at lanes (get_or c.args.pieces.now k nothing).lane).hop = ap (λ (lane : LaneAt). lane.hop) is in
    let exists : c.lane.inside.link < 128 = rw at (links_few lanes c.args.pieces.now k _ c.requires.links c.known.ensures.platform.few_links c.requires.exist c.loop-piece-test.true) in
    let few = used_few c.args.timed.now lanes c.args.start c.args.period c.args.pieces.now k c.loop-piece-test.true c.loop-piece.invariant.0 c.loop-piece.used c.loop-piece.invariant.2 c.loop-piece.invariant.3
    c.lane.inside.hop c.lane.inside.link hop (rw c.from.ensures at c.if-from-period.true) at exists in
    let fine = are_short c.args.start (get_or c.loop-piece.used c.lane.inside.link 0) c.cost-lasts.result (get_or c.args.pieces.now k nothing).count c.requires.short c.cost-lasts.type_inv few in
    rw c.from-then-from-period.ensures (record { fits = fine.begin })

pub place_sends-requires : goal.place_sends-requires
place_sends-requires c =
    let lanes = c.args.lanes.now in
    let k = c.loop-piece.piece-index in
    let is = c.lane.view_is ∙ found lanes c.args.pieces.now k c.index-lanes-piece.result c.requires.exist c.loop-piece-test.true c.index-lanes-piece.is in
    let at : c.lane.inside.link ≡ (lane_at lanes (get_or c.args.pieces.now k nothing).lane).link = ap (λ (lane : LaneAt). lane.link) is in
    let hop : c.lane.inside.hop ≡ (lane_at lanes (get_or c.args.pieces.now k nothing).lane).hop = ap (λ (lane : LaneAt). lane.hop) is in
    let exists : c.lane.inside.link < 128 = rw at (links_few lanes c.args.pieces.now k _ c.requires.links c.known.ensures.platform.few_links c.requires.exist c.loop-piece-test.true) in
    let few = used_few c.args.timed.now lanes c.args.start c.args.period c.args.pieces.now k c.loop-piece-test.true c.loop-piece.invariant.0 c.loop-piece.used c.loop-piece.invariant.2 c.loop-piece.invariant.3
    c.lane.inside.hop c.lane.inside.link hop (rw c.from.ensures at c.if-from-period.true) at exists in
    let fine = are_short c.args.start (get_or c.loop-piece.used c.lane.inside.link 0) c.cost-lasts.result (get_or c.args.pieces.now k nothing).count c.requires.short c.cost-lasts.type_inv few in
    record { short = rw c.from-then-from-period.ensures fine.ends }

pub loop-piece-preserved : goal.loop-piece-preserved
loop-piece-preserved c =
    let before = c.loop-piece.invariant.0 in
    let lanes = c.args.lanes.now in
    let k = c.loop-piece.piece-index in
    let piece = get_or c.args.pieces.now k nothing in
    let is = c.lane.view_is ∙ found lanes c.args.pieces.now k c.index-lanes-piece.result c.requires.exist c.loop-piece-test.true c.index-lanes-piece.is in
    let at : c.lane.inside.link ≡ (lane_at lanes piece.lane).link = ap (λ (lane : LaneAt). lane.link) is in
    let hop : c.lane.inside.hop ≡ (lane_at lanes piece.lane).hop = ap (λ (lane : LaneAt). lane.hop) is in
    elim c.if-from-period.branch [
      | then-from-period+in_ok-place_sends w ↦
          let here : has_batch lanes c.args.period piece ≡ true = keeps lanes c.args.period piece c.lane.inside.hop hop (rw c.from.ensures at w.if-from-period.true) in
          let exists = links_few lanes c.args.pieces.now k _ c.requires.links c.known.ensures.platform.few_links c.requires.exist c.loop-piece-test.true in
          let used : c.if-from-period.used ≡ slice_set c.loop-piece.used (lane_at lanes piece.lane).link (get_or c.loop-piece.used (lane_at lanes piece.lane).link 0 + piece.count) = rw at at w.used-is in
          let kind : c.lane.inside.kind ≡ (lane_at lanes piece.lane).kind = ap (λ (lane : LaneAt). lane.kind) is in
          let lasts : w.cost-lasts.result ≡ cost_of c.args.timed.now (lane_at lanes piece.lane).link = sym (get_or_from_slice_get c.args.timed.now.costs _ _ 0 (rw at at w.cost-lasts.ensures.value)) in
          let carried : get_or c.loop-piece.used (lane_at lanes piece.lane).link 0 ≡ tasks_over lanes (lane_at lanes piece.lane).link before = c.loop-piece.invariant.2 _ exists in
          let out : w.place_sends.new.out.items ≡ c.loop-piece.out.items ++ one_after_another (λ s. record { op = Send c.lane.inside.link c.lane.inside.kind s; lane = piece.lane }) w.cost-lasts.result
          (c.args.start + get_or c.loop-piece.used c.lane.inside.link 0 * w.cost-lasts.result) piece.count = rw w.from-then-from-period.ensures at w.in_ok-place_sends.ensures.ok in (
            piece ∷ before,
            rw used (length-set c.loop-piece.used _ _ ∙ c.loop-piece.invariant.1),
            rw used (noted_more (link_of lanes) tasks_of before piece c.loop-piece.used 128 (omega (arith, c.loop-piece.invariant.1)) exists c.loop-piece.invariant.2),
            count_moved (link_of lanes) tasks_of (has_batch lanes c.args.period) c.args.pieces.now k nothing c.loop-piece-test.true here before c.loop-piece.invariant.3,
            rw w.out-is (piece_placed c.args.timed.now lanes c.args.start c.args.period c.args.pieces.now k nothing c.loop-piece-test.true here before _ c.loop-piece.out.items _ c.loop-piece.invariant.4 (rw (at, kind, lasts, carried) at out)),
          )
      | else-from-period w ↦
          let away : has_batch lanes c.args.period piece ≡ false = drops lanes c.args.period piece c.lane.inside.hop hop (rw c.from.ensures at w.if-from-period.false) in
          let rest = none_left_out (link_of lanes) tasks_of (has_batch lanes c.args.period) c.args.pieces.now k nothing c.loop-piece-test.true away in
          (before, rw w.used-is c.loop-piece.invariant.1, rw w.used-is c.loop-piece.invariant.2, rw rest at c.loop-piece.invariant.3, rw (w.out-is) (rw rest at c.loop-piece.invariant.4))
    ]
