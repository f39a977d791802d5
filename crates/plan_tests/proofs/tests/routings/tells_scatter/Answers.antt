use Rattle.planner.proofs.Certified.{is_point}
use Rattle.schedule_model.specs.declared.schedule.Series.TheVariants.{Scatter}
use Rattle.plan_tests.proofs.tests.routings.tells_scatter.Goals as goal

pub tells_plan-requires-clause-point : goal.tells_plan-requires-clause-point
tells_plan-requires-clause-point c = is_point c.args.timed.now Scatter c.in_ok-plan.field-0.optimum c.in_ok-plan.ensures.optimal
