use Rattle.std.proofs.Common.{rules, ◌≡◌, ◌++◌, ◌∷◌, [], suc, ◌<◌, ◌^◌, length, arith}
use Rattle.period_table.specs.Lanes.{lanes_of}
use Rattle.plan_text.specs.Reading.{IsNext, IsSlotLine}
use Rattle.plan_text.specs.Reading.Place.{at_row}
use Rattle.plan_text.proofs.Steps.{push_slot, pushed_few, next_shorter}
use Rattle.plan_text.proofs.rows.read_slots.Goals as goal

pub loop-alloc-smaller : goal.loop-alloc-smaller
loop-alloc-smaller c =
    let lanes = lanes_of c.args.routes.now in
    let next : IsNext (IsSlotLine lanes) c.loop-alloc.rest.now c.in-Some.slot c.in-Some.left.now = search rules in
    next_shorter (IsSlotLine lanes) c.loop-alloc.rest.now c.in-Some.left.now c.in-Some.slot next

pub loop-alloc-preserved : goal.loop-alloc-preserved
loop-alloc-preserved c =
    let t = c.args.timed.now in
    let lanes = lanes_of c.args.routes.now in
    let next : IsNext (IsSlotLine lanes) c.loop-alloc.rest.now c.in-Some.slot c.in-Some.left.now = search rules in
    let pushed : c.push.new.self ≡ c.loop-alloc.slots ++ c.in-Some.slot ∷ [] = search rules in
    let few : suc (length c.loop-alloc.slots) < 2 ^ 32 = omega (arith, c.loop-alloc-test.true, c.len.ensures) in
    record {
      read = push_slot t c.args.head.now c.args.routes.now (at_row c.args.head.now c.args.routes.now []) c.args.bytes.now c.loop-alloc.rest.now c.in-Some.left.now c.loop-alloc.slots c.in-Some.slot c.push.new.self pushed few c.loop-alloc.invariant.read next;
      few = pushed_few c.loop-alloc.slots c.in-Some.slot c.push.new.self pushed few;
    }
