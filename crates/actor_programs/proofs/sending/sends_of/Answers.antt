use Rattle.std.proofs.Common.{◌≡◌, ℕ, ◌+◌, ◌<◌, ◌++◌, List, [], ◌∷◌, length, drop, get_or, replicate, ◌∙◌, ap, arith}
use Rattle.std.proofs.lemmas.List.{get_or-replicate, length-replicate}
use Rattle.period_table.specs.Tables.{moved_over}
use Rattle.actor_programs.specs.Programs.{sends_of}
use Rattle.actor_programs.specs.declared.run.Run.{Run}
use Rattle.actor_programs.proofs.Runs.{in_slot}
use Rattle.actor_programs.proofs.Patterns.{as_many, bounded, place_short, moved_left, pieces_exist, sends_left, more_before}
use Rattle.actor_programs.proofs.sending.sends_of.Goals as goal

pub loop-slot-init : goal.loop-slot-init
loop-slot-init c =
    let table = c.args.table.now in
    let n = length c.args.places.now in
    let many = as_many c.args.timed.now table c.requires.fits c.args.places.now c.requires.places in
    let items : c.in_ok-moved.moved.items ≡ replicate n 0 = c.in_ok-moved.ensures.items_if_clones_equal (λ y e. e) in (
      [],
      ap length items ∙ length-replicate n 0,
      λ k l. ap (λ (xs : List ℕ). get_or xs k 0) items ∙ get_or-replicate n k 0 0 l,
      λ k l. let all = c.requires.fits.moved k (omega (arith, l, many)) in omega (arith, all),
      ap (λ (runs : List Run). runs ++ sends_of table.routes c.args.link [] table.slots) c.new-runs.ensures,
    )

pub push_pieces-requires-clause-exist : goal.push_pieces-requires-clause-exist
push_pieces-requires-clause-exist c =
    let table = c.args.table.now in
    let many = as_many c.args.timed.now table c.requires.fits c.args.places.now c.requires.places in
    let there = pieces_exist c.args.timed.now table c.requires.fits c.args.places.now c.requires.places c.loop-slot.slot-index c.slot-item.result (rw c.as_slice-slot-items.ensures at c.loop-slot-test.true) (rw c.as_slice-slot-items.ensures at c.slot-item.is) in
    rw (c.as_slice-pieces.ensures, many) there

pub push_pieces-requires-clause-short : goal.push_pieces-requires-clause-short
push_pieces-requires-clause-short c = λ k l.
    let table = c.args.table.now in
    let agree : get_or c.loop-slot.moved.items k 0 ≡ moved_over k c.loop-slot.invariant.0 = c.loop-slot.invariant.2 k l in
    rw (c.as_slice.ensures.value, agree)
    (place_short c.args.timed.now table c.requires.fits c.args.places.now c.requires.places k (moved_over k c.loop-slot.invariant.0) (moved_over k (drop c.loop-slot.slot-index table.slots)) l (c.loop-slot.invariant.3 k l))

pub add_moved-requires-clause-exist : goal.add_moved-requires-clause-exist
add_moved-requires-clause-exist c =
    let table = c.args.table.now in
    let many = as_many c.args.timed.now table c.requires.fits c.args.places.now c.requires.places in
    let there = pieces_exist c.args.timed.now table c.requires.fits c.args.places.now c.requires.places c.loop-slot.slot-index c.slot-item.result (rw c.as_slice-slot-items.ensures at c.loop-slot-test.true) (rw c.as_slice-slot-items.ensures at c.slot-item.is) in
    rw (c.as_slice-pieces.ensures, c.loop-slot.invariant.1, many) there

pub add_moved-requires-clause-short : goal.add_moved-requires-clause-short
add_moved-requires-clause-short c = λ k l.
    let table = c.args.table.now in
    let inside : k < length c.args.places.now = omega (arith, l, c.loop-slot.invariant.1) in
    let left = moved_left c.args.timed.now table c.requires.fits c.args.places.now c.requires.places c.loop-slot.slot-index c.slot-item.result (rw c.as_slice-slot-items.ensures at c.loop-slot-test.true) (rw c.as_slice-slot-items.ensures at c.slot-item.is) k in
    rw c.as_slice-pieces.ensures
    (omega (arith, left, c.loop-slot.invariant.2 k inside, c.loop-slot.invariant.3 k inside, bounded c.args.timed.now table c.requires.fits c.args.places.now c.requires.places k inside))

pub loop-slot-preserved : goal.loop-slot-preserved
loop-slot-preserved c =
    let t = c.args.timed.now in
    let table = c.args.table.now in
    let before = c.loop-slot.invariant.0 in
    let slot = c.slot-item.result in
    let many = as_many t table c.requires.fits c.args.places.now c.requires.places in
    let left = moved_left t table c.requires.fits c.args.places.now c.requires.places c.loop-slot.slot-index slot (rw c.as_slice-slot-items.ensures at c.loop-slot-test.true) (rw c.as_slice-slot-items.ensures at c.slot-item.is) in
    let more = λ (k : ℕ). more_before t table c.requires.fits c.args.places.now c.requires.places k slot before in
    let pieces : c.as_slice-pieces.result.now ≡ slot.pieces = c.as_slice-pieces.ensures in (
      slot ∷ before,
      c.add_moved.ensures.size ∙ c.loop-slot.invariant.1,
      λ k l.
          let sums : get_or c.add_moved.new.moved.items k 0 ≡ get_or c.loop-slot.moved.items k 0 + in_slot k slot.pieces =
          rw pieces at (c.add_moved.ensures.sums k (omega (arith, l, c.loop-slot.invariant.1))) in
          omega (arith, sums, c.loop-slot.invariant.2 k l, more k),
      λ k l. omega (arith, left k, more k, c.loop-slot.invariant.3 k l),
      sends_left t table c.requires.fits c.args.places.now c.requires.places c.loop-slot.slot-index slot (rw c.as_slice-slot-items.ensures at c.loop-slot-test.true) (rw c.as_slice-slot-items.ensures at c.slot-item.is) c.args.link before c.loop-slot.moved.items
          c.loop-slot.runs c.push_pieces.new.out _ (λ k l. c.loop-slot.invariant.2 k (omega (arith, l, many))) (rw (pieces, c.as_slice.ensures.value) at c.in_ok-push_pieces.ensures.ok) c.loop-slot.invariant.4,
    )
