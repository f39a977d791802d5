use Rattle.std.proofs.Common.{◌∙◌, sym, arith}
use Rattle.std.proofs.lemmas.List.{drop_all}
use Rattle.schedule_model.proofs.Least.{least_found}
use Rattle.schedule_model.proofs.tally.Tally.least_delivered.Goals as goal

pub returns : goal.returns
returns c =
    let targets = c.targets-targets.result.now in
    let all = rw (c.targets-targets.ensures, c.platform.ensures) at (rw (drop_all c.loop-target.target-index targets (omega (arith, c.loop-target-test.false))) at c.loop-target.invariant.1) in
    sym all ∙ least_found c.args.self.now c.args.timed.now.platform.targets c.requires
