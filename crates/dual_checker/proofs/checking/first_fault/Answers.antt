use Rattle.std.proofs.Common.{rules, ◌≡◌, ◌<◌, true, sym, ◌∙◌}
use Rattle.std.specs.Option.{is_some}
use Rattle.dual_checker.specs.Verdicts.{column_fault}
use Rattle.dual_checker.proofs.Priced.{fault_found}
use Rattle.dual_checker.proofs.checking.first_fault.Goals as goal

pub returns-then-is_some : goal.returns-then-is_some
returns-then-is_some c =
    let fault : is_some (column_fault c.args.lp.now c.args.certificate.now c.loop-column.column) ≡ true = search rules in
    let within : c.loop-column.column < c.args.lp.now.columns = search rules in
    c.column_fault-fault.ensures ∙ sym (fault_found c.args.lp.now c.args.certificate.now c.args.lp.now.columns c.loop-column.column within c.loop-column.invariant fault)

pub returns : goal.returns
returns c = search rules
