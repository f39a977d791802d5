use Rattle.std.proofs.Common.{rules, ◌≡◌, ◌≤◌, ◌^◌, List, true, false, sym, ◌∙◌, subst, arith}
use Rattle.period_table.specs.declared.table.Piece.{Piece}
use Rattle.period_table.specs.declared.table.Slot.{Slot}
use Rattle.period_table.specs.Lanes.{lanes_of}
use Rattle.period_table.specs.Tables.{IsSlot}
use Rattle.text_lines.specs.Lines.{words_of}
use Rattle.plan_text.specs.Reading.{ArePieceWords}
use Rattle.plan_text.proofs.RowHeads.{said}
use Rattle.plan_text.proofs.RowReads.{AreSlotWords, slot_line_words, slot_words_line, slot_numbered, slot_too_long, slot_unread, slot_told, slot_read}
use Rattle.plan_text.proofs.rows.slot_of_words.Goals as goal

pub returns-in_default : goal.returns-in_default
returns-in_default c = λ text same slot line.
    let lanes = lanes_of c.args.routes.now in
    let ws = said c.args.words.now in
    let are : AreSlotWords lanes ws slot = subst (λ words. AreSlotWords lanes words slot) (sym same) (slot_line_words lanes text slot line) in
    c.in_default.ensures slot.duration _ (slot_numbered lanes ws slot are)

pub returns-then-duration-gt-MOST_COUNT : goal.returns-then-duration-gt-MOST_COUNT
returns-then-duration-gt-MOST_COUNT c = λ text same slot line.
    let lanes = lanes_of c.args.routes.now in
    let ws = said c.args.words.now in
    let are : AreSlotWords lanes ws slot = subst (λ words. AreSlotWords lanes words slot) (sym same) (slot_line_words lanes text slot line) in
    let others = said c.in-Some.others.now in
    slot_too_long lanes ws c.in-Some.duration others c.in-Some.ensures.are_words c.in-Some.ensures.bounded (omega (arith, c.if-duration-gt-MOST_COUNT.true)) slot are

pub returns-in_default-2 : goal.returns-in_default-2
returns-in_default-2 c = λ text same slot line.
    let lanes = lanes_of c.args.routes.now in
    let ws = said c.args.words.now in
    let are : AreSlotWords lanes ws slot = subst (λ words. AreSlotWords lanes words slot) (sym same) (slot_line_words lanes text slot line) in
    let others = said c.in-Some.others.now in
    let none : (pieces : List Piece) → ArePieceWords others pieces → ⊥ = search rules in
    slot_unread lanes ws c.in-Some.duration others c.in-Some.ensures.are_words c.in-Some.ensures.bounded none slot are

pub returns-then-is_slot : goal.returns-then-is_slot
returns-then-is_slot c = λ text same.
    let lanes = lanes_of c.args.routes.now in
    let ws = said c.args.words.now in
    let others = said c.in-Some.others.now in
    let pieces : ArePieceWords others c.in-Some-2.pieces = search rules in
    let slot : Slot = record { duration = c.in-Some.duration; pieces = c.in-Some-2.pieces } in
    let short : c.in-Some.duration ≤ 2 ^ 100 = omega (arith, c.if-duration-gt-MOST_COUNT.false) in
    let is : IsSlot lanes slot = c.is_slot.ensures.yes c.if-is_slot.true in
    slot_words_line lanes text slot
    (subst (λ words. AreSlotWords lanes words slot) same (slot_read lanes ws c.in-Some.duration others c.in-Some.ensures.are_words c.in-Some.ensures.bounded c.in-Some-2.pieces pieces short is))

pub returns-else-is_slot : goal.returns-else-is_slot
returns-else-is_slot c = λ text same slot line.
    let lanes = lanes_of c.args.routes.now in
    let ws = said c.args.words.now in
    let are : AreSlotWords lanes ws slot = subst (λ words. AreSlotWords lanes words slot) (sym same) (slot_line_words lanes text slot line) in
    let others = said c.in-Some.others.now in
    let pieces : ArePieceWords others c.in-Some-2.pieces = search rules in
    let told = slot_told lanes ws c.in-Some.duration others c.in-Some.ensures.are_words c.in-Some.ensures.bounded c.in-Some-2.pieces pieces slot are in
    let yes : true ≡ false = sym (c.is_slot.ensures.no (subst (IsSlot lanes) told are.is_slot)) ∙ c.if-is_slot.false in
    cc
