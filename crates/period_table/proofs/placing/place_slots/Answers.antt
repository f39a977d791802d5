use Rattle.std.proofs.Common.{◌≡◌, ℕ, ◌+◌, ◌<◌, ◌++◌, List, length, All, get_or, refl, sym, ◌∙◌, ap, subst, arith}
use Rattle.std.proofs.lemmas.List.{get_or_default}
use Rattle.std.proofs.lemmas.List.Elements.{All-get_or}
use Rattle.period_table.specs.declared.table.Slot.{Slot}
use Rattle.period_table.specs.declared.busy.BusySlot.{BusySlot}
use Rattle.period_table.specs.BusySlots.{busy_slots}
use Rattle.period_table.specs.Tables.{IsSlot, IsPiece}
use Rattle.period_table.specs.TableSchedules.{sends_of_slots}
use Rattle.period_table.proofs.BusySends.{no_slot, sends_of_busy, sends_are_busy, IsBusy, all_are_busy, next_length, busy_placed}
use Rattle.period_table.proofs.placing.place_slots.Goals as goal

abbrev nothing : BusySlot
nothing = record { start = 0; slot = 0 }

is_busy : (slots : List Slot) (busy : List BusySlot) (k : ℕ) → busy ≡ busy_slots 0 0 slots → k < length busy → IsBusy slots (get_or busy k nothing)
is_busy slots busy k e l = All-get_or (IsBusy slots) busy k nothing l (subst (λ all. All (IsBusy slots) all) (sym e) (all_are_busy slots slots 0 0 refl (omega arith)))

pub loop-at-init : goal.loop-at-init
loop-at-init c =
    let none : c.args.start + 0 ≡ c.args.start = omega arith in
    let same : sends_of_slots c.args.timed.now c.args.lanes.now c.args.period c.args.start c.args.slots.now ≡ sends_of_busy c.args.timed.now c.args.lanes.now c.args.period c.args.slots.now c.args.start c.args.busy.now =
    subst (λ s. sends_of_slots c.args.timed.now c.args.lanes.now c.args.period s c.args.slots.now ≡ sends_of_busy c.args.timed.now c.args.lanes.now c.args.period c.args.slots.now c.args.start c.args.busy.now) none
    (sends_are_busy c.args.timed.now c.args.lanes.now c.args.period c.args.slots.now c.args.start c.args.slots.now 0 0 refl
    ∙ ap (sends_of_busy c.args.timed.now c.args.lanes.now c.args.period c.args.slots.now c.args.start) (sym c.requires.busy)) in
    record { few = rw same at c.requires.few; rest = ap (λ ops. c.args.out.now.items ++ ops) (sym same) }

pub bounds-slots-at : goal.bounds-slots-at
bounds-slots-at c =
    let lanes = c.args.lanes.now in
    let slots = c.args.slots.now in
    let k = c.loop-at.at-index in
    let at = get_or c.args.busy.now k nothing in
    let busy = is_busy slots c.args.busy.now k c.requires.busy c.loop-at-test.true in
    busy.exists

pub overflow_add-start : goal.overflow_add-start
overflow_add-start c =
    let lanes = c.args.lanes.now in
    let slots = c.args.slots.now in
    let k = c.loop-at.at-index in
    let at = get_or c.args.busy.now k nothing in
    let busy = is_busy slots c.args.busy.now k c.requires.busy c.loop-at-test.true in
    record { fits = omega (arith, busy.within, c.requires.short) }

pub place_pieces-requires-clause-exist : goal.place_pieces-requires-clause-exist
place_pieces-requires-clause-exist c =
    let lanes = c.args.lanes.now in
    let slots = c.args.slots.now in
    let k = c.loop-at.at-index in
    let at = get_or c.args.busy.now k nothing in
    let busy = is_busy slots c.args.busy.now k c.requires.busy c.loop-at-test.true in
    let pieces : c.as_slice-pieces.result.now ≡ (get_or slots at.slot no_slot).pieces = c.as_slice-pieces.ensures ∙ ap (λ (slot : Slot). slot.pieces) (get_or_default slots at.slot c.index-slots-at.result no_slot busy.exists) in
    subst (λ ps. All (IsPiece lanes) ps) (sym pieces) (All-get_or (IsSlot lanes) slots at.slot no_slot busy.exists c.requires.exist).pieces

pub place_pieces-requires-clause-few : goal.place_pieces-requires-clause-few
place_pieces-requires-clause-few c =
    let lanes = c.args.lanes.now in
    let slots = c.args.slots.now in
    let k = c.loop-at.at-index in
    let at = get_or c.args.busy.now k nothing in
    let busy = is_busy slots c.args.busy.now k c.requires.busy c.loop-at-test.true in
    let pieces : c.as_slice-pieces.result.now ≡ (get_or slots at.slot no_slot).pieces = c.as_slice-pieces.ensures ∙ ap (λ (slot : Slot). slot.pieces) (get_or_default slots at.slot c.index-slots-at.result no_slot busy.exists) in
    let few = next_length c.args.timed.now lanes c.args.period slots c.args.start c.args.busy.now k nothing c.loop-at-test.true in
    rw pieces (omega (arith, few, c.loop-at.invariant.few))

pub place_pieces-requires-clause-short : goal.place_pieces-requires-clause-short
place_pieces-requires-clause-short c =
    let lanes = c.args.lanes.now in
    let slots = c.args.slots.now in
    let k = c.loop-at.at-index in
    let at = get_or c.args.busy.now k nothing in
    let busy = is_busy slots c.args.busy.now k c.requires.busy c.loop-at-test.true in
    omega (arith, busy.within, c.requires.short)

pub loop-at-preserved : goal.loop-at-preserved
loop-at-preserved c =
    let lanes = c.args.lanes.now in
    let slots = c.args.slots.now in
    let k = c.loop-at.at-index in
    let at = get_or c.args.busy.now k nothing in
    let busy = is_busy slots c.args.busy.now k c.requires.busy c.loop-at-test.true in
    let pieces : c.as_slice-pieces.result.now ≡ (get_or slots at.slot no_slot).pieces = c.as_slice-pieces.ensures ∙ ap (λ (slot : Slot). slot.pieces) (get_or_default slots at.slot c.index-slots-at.result no_slot busy.exists) in
    let few = next_length c.args.timed.now lanes c.args.period slots c.args.start c.args.busy.now k nothing c.loop-at-test.true in
    record {
      few = omega (arith, few, c.loop-at.invariant.few);
      rest = busy_placed c.args.timed.now lanes c.args.period slots c.args.start c.args.busy.now k nothing c.loop-at-test.true _ c.loop-at.out.items _ c.loop-at.invariant.rest (rw pieces at c.in_ok-place_pieces.ensures.ok);
    }
