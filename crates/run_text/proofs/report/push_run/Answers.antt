use Rattle.run_text.proofs.Joins.{run_joined}
use Rattle.run_text.proofs.report.push_run.Goals as goal

pub returns-clause-text : goal.returns-clause-text
returns-clause-text c =
    run_joined c.args.table.now c.args.chunks c.args.events c.from.result c.batches.result c.periods.result c.from-2.result
    c.args.into.now.items c.push_number.new.into.items c.push_number-2.new.into.items c.push_number-3.new.into.items c.push_number-4.new.into.items c.push_text.new.into.items
    c.from.ensures c.batches.ensures.batches c.periods.ensures c.from-2.ensures
    c.push_number.ensures.text c.push_number-2.ensures.text c.push_number-3.ensures.text c.push_number-4.ensures.text c.push_text.ensures.text
