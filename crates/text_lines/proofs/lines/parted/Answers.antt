use Rattle.std.proofs.Common.{◌≡◌, ◌+◌, ◌-◌, length, take, drop, add-one, arith}
use Rattle.std.proofs.lemmas.List.{take_all, length-drop}
use Rattle.text_lines.proofs.FirstLines.{part_at, no_part}
use Rattle.text_lines.proofs.lines.parted.Goals as goal

pub returns-then-text-at : goal.returns-then-text-at
returns-then-text-at c =
    let bytes = c.args.text.now in
    let at = c.loop-at.at in
    let rest : take (length bytes - (at + 1)) (drop (at + 1) bytes) ≡ drop (at + 1) bytes = take_all _ _ (rw (length-drop (at + 1) bytes) (omega arith)) in
    rw (rest, add-one) (part_at c.args.by bytes at c.loop-at-test.true c.if-text-at.true c.loop-at.invariant)

pub returns : goal.returns
returns c = no_part c.args.by c.args.text.now (λ k l. c.loop-at.invariant k (omega (arith, l, c.loop-at-test.false)))
