use Rattle.std.proofs.Common.{◌≡◌, arith}
use Rattle.std.proofs.lemmas.Option.{get_or_from_slice_get}
use Rattle.std.proofs.lemmas.Grind.{common_steps}
use Rattle.schedule_model.specs.Operations.{cost_of}
use Rattle.scatter_program.proofs.rows.flow_cell.Goals as goal

pub returns-in-Receive : goal.returns-in-Receive
returns-in-Receive c =
    let cost : cost_of c.args.timed.now c.args.link ≡ c.cost-in-Receive.result = get_or_from_slice_get c.args.timed.now.costs c.args.link c.cost-in-Receive.result 0 c.cost-in-Receive.ensures.value in
    grind (arith, common_steps, cost)
