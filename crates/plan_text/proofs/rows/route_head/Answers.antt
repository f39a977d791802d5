use Rattle.std.proofs.Common.{rules, ◌≡◌, ◌≤◌, ◌^◌, Some, None, sym, ◌∙◌, arith}
use Rattle.text_lines.specs.Numbers.{natural_of}
use Rattle.plan_text.proofs.RowHeads.{said, head_other_number, head_unread, head_found}
use Rattle.plan_text.proofs.rows.route_head.Goals as goal

pub returns-then-found-from : goal.returns-then-found-from
returns-then-found-from c =
    let few : c.args.number ≤ 2 ^ 107 = omega (arith, c.ranges.number.fits) in
    let from : c.from.result ≡ c.args.number = search rules in
    head_other_number c.args.timed.now c.args.number few (said c.args.words.now) c.in-Some.found (said c.in-Some.others.now) c.in-Some.ensures (λ e. c.if-found-from.true (e ∙ sym from))

pub returns-in_default-natural_of : goal.returns-in_default-natural_of
returns-in_default-natural_of c =
    let few : c.args.number ≤ 2 ^ 107 = omega (arith, c.ranges.number.fits) in
    let none : natural_of (2 ^ 100) c.in-Some-next_word.word.now ≡ None = search rules in
    head_unread c.args.timed.now c.args.number few (said c.args.words.now) c.in-Some.found (said c.in-Some.others.now) c.in-Some.ensures c.in-Some-next_word.word.now (said c.in-Some-next_word.behind.now) c.in-Some-next_word.ensures
    (c.numbers_are_read_as_printed.ensures (2 ^ 100) (omega arith)) none

pub returns : goal.returns
returns c =
    let few : c.args.number ≤ 2 ^ 107 = omega (arith, c.ranges.number.fits) in
    let from : c.from.result ≡ c.args.number = search rules in
    let same : c.in-Some.found ≡ c.args.number = search rules in
    let counted : natural_of (2 ^ 100) c.in-Some-next_word.word.now ≡ Some c.in-Some-natural_of.count = search rules in
    head_found c.args.timed.now c.args.number few (said c.args.words.now) c.in-Some.found (said c.in-Some.others.now) c.in-Some.ensures c.in-Some-next_word.word.now (said c.in-Some-next_word.behind.now) c.in-Some-next_word.ensures
    c.in-Some-next_word-2.name.now (said c.in-Some-next_word-2.names.now) c.in-Some-next_word-2.ensures same (c.numbers_are_read_as_printed.ensures (2 ^ 100) (omega arith)) c.in-Some-natural_of.count c.in-Some-node_named.start counted c.in-Some-node_named.ensures
