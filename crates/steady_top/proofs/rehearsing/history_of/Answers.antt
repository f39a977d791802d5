use Rattle.steady_top.proofs.Rehearsed.{history_found}
use Rattle.steady_top.proofs.rehearsing.history_of.Goals as goal

pub returns-clause-history : goal.returns-clause-history
returns-clause-history c =
    history_found (λ h. h.items) c.args.timed.now c.args.table.now c.args.chunks c.args.seed c.args.wiring.now c.requires.wired.is c.rehearse.result c.rehearse.ensures.legal c.rehearse.ensures.complete c.rehearse.ensures.chosen
