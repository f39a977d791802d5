use Rattle.std.proofs.Common.{rules, ◌≡◌, ◌≢◌, suc, ◌+◌, ◌<◌, ◌^◌, ℕ, List, [], length, ◌∙◌, sym, subst, arith, refl, inl, inr}
use Rattle.period_table.specs.declared.table.Slot.{Slot}
use Rattle.period_table.specs.Lanes.{lanes_of}
use Rattle.plan_text.specs.Reading.{HasNoNext, IsNext, IsEndLine, IsSlotLine, AreRead, IsFaultAt, IsFaultBehind}
use Rattle.plan_text.specs.Reading.Place.{at_row}
use Rattle.plan_text.proofs.WholeReads.{stops_behind, through}
use Rattle.plan_text.proofs.reading.read_lines.Goals as goal

pub returns-in-Some-clause-fault : goal.returns-in-Some-clause-fault
returns-in-Some-clause-fault c =
    let t = c.args.timed.now in
    let bytes = c.args.bytes.now in
    let head = c.in_ok-head.head in
    let routes = c.in_ok-routes.routes in
    let slots = c.in_ok-slots.slots in
    let of_slots : AreRead (length slots) t (at_row head routes []) c.in_ok-routes.rest.now (at_row head routes slots) c.in_ok-slots.rest.now = search rules in
    let same : c.as_slice.result.now ≡ routes = search rules in
    let no_slot : suc (length slots) < 2 ^ 32 → HasNoNext (IsSlotLine (lanes_of routes)) c.in_ok-slots.rest.now = λ few. subst (λ rs. HasNoNext (IsSlotLine (lanes_of rs)) c.in_ok-slots.rest.now) same (c.in_ok-slots.ensures.all few) in
    let lent : c.as_slice-2.result.now ≡ slots = search rules in
    let found : IsFaultBehind slots (7 + c.len.result + c.len-2.result) c.in_ok-slots.rest.now c.in-Some.number = subst (λ rows. IsFaultBehind rows (7 + c.len.result + c.len-2.result) c.in_ok-slots.rest.now c.in-Some.number) lent c.in-Some.ensures in
    stops_behind t bytes c.in_ok-head.rest.now c.in_ok-routes.rest.now c.in_ok-slots.rest.now head routes slots c.in_ok-head.ensures.ok c.in_ok-routes.ensures.read of_slots c.in-Some.number (7 + c.len.result + c.len-2.result) (omega (arith, c.len.ensures, c.len-2.ensures)) c.in_ok-routes.ensures.all no_slot found

pub returns-in-None-clause-read : goal.returns-in-None-clause-read
returns-in-None-clause-read c =
    let t = c.args.timed.now in
    let bytes = c.args.bytes.now in
    let head = c.in_ok-head.head in
    let routes = c.in_ok-routes.routes in
    let slots = c.in_ok-slots.slots in
    let of_slots : AreRead (length slots) t (at_row head routes []) c.in_ok-routes.rest.now (at_row head routes slots) c.in_ok-slots.rest.now = search rules in
    let ended : (slots ≢ []) × IsNext IsEndLine c.in_ok-slots.rest.now tt [] = search rules in
    through t bytes c.in_ok-head.rest.now c.in_ok-routes.rest.now c.in_ok-slots.rest.now head routes slots c.in_ok-head.ensures.ok c.in_ok-routes.ensures.read of_slots [] ended.0 ended.1 refl
