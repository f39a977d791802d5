use Rattle.std.proofs.Common.{rules, ◌≡◌, ◌≤◌, sum_by, sym, subst}
use Rattle.period_table.specs.Lanes.{lanes_of}
use Rattle.period_table.proofs.FittingTables.{slots_last}
use Rattle.plan_text.proofs.WholeReads.{some_slots}
use Rattle.plan_text.proofs.reading.disagreement.Goals as goal

pub is_rate-requires-clause-period : goal.is_rate-requires-clause-period
is_rate-requires-clause-period c =
    let table = c.args.table.now in
    let period : table.period ≡ sum_by (λ slot. slot.duration) table.slots = search rules in
    subst (λ n. 1 ≤ n) (sym period) (slots_last (lanes_of table.routes) table.slots (some_slots table.slots c.requires.some) c.requires.slots)

pub returns-then-not-has_tasks : goal.returns-then-not-has_tasks
returns-then-not-has_tasks c = search rules
