use Rattle.planner.proofs.OneTable.{plan_is_one}
use Rattle.planner.proofs.laws.plans_are_one.Goals as goal

pub returns : goal.returns
returns c = plan_is_one
