use Rattle.planner.proofs.Certified.{is_point}
use Rattle.schedule_model.specs.declared.schedule.Series.TheVariants.{Tasking}
use Rattle.plan_tests.proofs.tests.plans.tells_planned.Goals as goal

pub tells_plan-requires : goal.tells_plan-requires
tells_plan-requires c = is_point c.args.timed.now Tasking c.in_ok-plan.field-0.optimum c.in_ok-plan.ensures.optimal
