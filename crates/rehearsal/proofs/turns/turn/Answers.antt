use Rattle.std.proofs.Common.{◌<◌, length, refl, arith}
use Rattle.rehearsal.specs.Choices.{drawn_by}
use Rattle.rehearsal.proofs.Choosing.{some_programs, drawn-within}
use Rattle.rehearsal.proofs.turns.turn.Goals as goal

pub drawn_by-first-requires-clause-some : goal.drawn_by-first-requires-clause-some
drawn_by-first-requires-clause-some c =
    let some = some_programs c.args.wiring.now.programs (omega (arith, c.requires.unfinished.2)) in
    omega (arith, some, c.actors.ensures)

pub choose-requires-clause-first : goal.choose-requires-clause-first
choose-requires-clause-first c =
    let some = some_programs c.args.wiring.now.programs (omega (arith, c.requires.unfinished.2)) in
    let within = drawn-within c.actors.result c.args.number (omega (arith, some, c.actors.ensures)) in
    let first : drawn_by c.actors.result c.args.number < length c.args.wiring.now.programs = omega (arith, within, c.actors.ensures) in
    rw c.drawn_by-first.ensures first

pub unreachable-requires : goal.unreachable-requires
unreachable-requires c =
    let w = c.args.wiring.now in
    let (h, old, unfinished) = c.requires.unfinished in
    let complete = c.progress.ensures.ends w c.requires.paced.0 h c.known.ensures c.requires.paced.1 old.legal (c.in-None.ensures.stuck h old refl) in
    let whole = (c.bounded.ensures.whole w h old.legal).1 complete in
    omega (arith, unfinished, whole)
