use Rattle.std.proofs.Common.{rules, ◌≡◌, ◌^◌, Some, None, arith}
use Rattle.text_lines.specs.Numbers.{natural_of}
use Rattle.plan_text.proofs.RowHeads.{said, numbered_unread, numbered_found}
use Rattle.plan_text.proofs.rows.numbered.Goals as goal

pub returns-in_default-natural_of : goal.returns-in_default-natural_of
returns-in_default-natural_of c =
    let none : natural_of (2 ^ 107) c.in-Some-next_word.second.now ≡ None = search rules in
    numbered_unread c.args.word.now (said c.args.words.now) c.in-Some.first.now (said c.in-Some.others.now) c.in-Some.ensures c.in-Some-next_word.second.now (said c.in-Some-next_word.behind.now) c.in-Some-next_word.ensures
    (c.numbers_are_read_as_printed.ensures (2 ^ 107) (omega arith)) none

pub returns : goal.returns
returns c =
    let found : natural_of (2 ^ 107) c.in-Some-next_word.second.now ≡ Some c.in-Some-natural_of.number = search rules in
    let same : c.in-Some.first.now ≡ c.args.word.now = search rules in
    numbered_found c.args.word.now (said c.args.words.now) c.in-Some.first.now (said c.in-Some.others.now) c.in-Some.ensures c.in-Some-next_word.second.now (said c.in-Some-next_word.behind.now) c.in-Some-next_word.ensures
    same (c.numbers_are_read_as_printed.ensures (2 ^ 107) (omega arith)) c.in-Some-natural_of.number found
