use Rattle.std.proofs.Common.{◌≡◌, ◌≤◌, Ok}
use Rattle.schedule_model.specs.Operations.{cost_of}
use Rattle.series_routes.specs.Numbers.{goes_over}
use Rattle.series_routes.specs.declared.numbers.PeriodStep.TheVariants.{Costs}
use Rattle.series_routes.proofs.Multiples.{so_far}
use Rattle.series_routes.proofs.numbers.common_cost.Given as goal

abbrev pub invariant-loop-link : goal.invariant-loop-link
invariant-loop-link l = record {
  some : 1 ≤ l.common;
  told : so_far Costs (goes_over l.flows) (cost_of l.timed) l.link ≡ Ok l.common;
}
