use Rattle.std.proofs.Common.{◌≡◌, ◌+◌, ◌∷◌, [], length, length-append, ap, ◌∙◌, arith}
use Rattle.rehearsal.specs.Choices.{turned, number_after, IsChosen}
use Rattle.rehearsal.proofs.Choosing.{number-next, rehearsed-more}
use Rattle.rehearsal.proofs.turns.make_all.Goals as goal

pub loop-made-preserved : goal.loop-made-preserved
loop-made-preserved c =
    let w = c.args.wiring.now in
    let h = c.loop-made.history.items in
    let old = c.loop-made.invariant in
    let longer = length-append h (c.turn-event.result ∷ []) in
    let number : c.turned-number.result ≡ number_after c.args.seed (c.loop-made._made + 1) =
    c.turned-number.ensures ∙ ap turned old.number ∙ number-next c.args.seed c.loop-made._made in
    let chosen : IsChosen w h (number_after c.args.seed (length h + 1)) c.turn-event.result =
    rw (old.made, ← number) (c.turn-event.ensures.chosen h old.state) in
    record {
      state = rw c.push_reserved.ensures.items (c.turn-event.ensures.made h old.state);
      made = omega (arith, ap length c.push_reserved.ensures.items, longer, old.made);
      number = number;
      chosen = rw c.push_reserved.ensures.items (rehearsed-more w c.args.seed h c.turn-event.result old.chosen chosen);
      room = c.push_reserved.ensures.capacity ∙ old.room;
    }
