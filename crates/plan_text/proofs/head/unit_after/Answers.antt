use Rattle.std.proofs.Common.{rules, ◌≡◌, sym, ◌∙◌}
use Rattle.plan_text.proofs.LineReads.{unit_unread, unit_other}
use Rattle.plan_text.proofs.head.unit_after.Goals as goal

pub returns-in_default : goal.returns-in_default
returns-in_default c = unit_unread c.args.timed.now c.args.bytes.now c.in_default.ensures

pub returns-else-unit-from : goal.returns-else-unit-from
returns-else-unit-from c =
    let unit : c.from.result ≡ c.args.timed.now.unit = search rules in
    unit_other c.args.timed.now c.args.bytes.now c.in-Some.unit c.in-Some.rest.now c.in-Some.ensures (λ e. c.if-unit-from.false (e ∙ sym unit))
