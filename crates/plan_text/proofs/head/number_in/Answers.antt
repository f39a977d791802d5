use Rattle.std.proofs.Common.{rules, ◌≡◌, ◌^◌, arith}
use Rattle.text_lines.specs.Numbers.{natural_of}
use Rattle.plan_text.proofs.LineReads.{number_unread, number_found}
use Rattle.plan_text.proofs.head.number_in.Goals as goal

pub returns-in_default : goal.returns-in_default
returns-in_default c = number_unread c.args.word.now c.args.text.now c.in_default.ensures

pub returns : goal.returns
returns c =
    let read : natural_of (2 ^ 107) c.in-Some.rest.now ≡ c.natural_of.result = search rules in
    number_found c.args.word.now c.args.text.now c.in-Some.rest.now c.natural_of.result (c.numbers_are_read_as_printed.ensures (2 ^ 107) (omega arith)) c.in-Some.ensures read
