use Rattle.std.proofs.Common.{ℕ, ◌<◌, get_or}
use Rattle.flow_routes.specs.declared.flow.Route.{Route}
use Rattle.period_table.specs.Tables.{IsRoute}
use Rattle.period_table.proofs.walks.are_routes.Given as goal

abbrev pub invariant-loop-route : goal.invariant-loop-route
invariant-loop-route l = (k : ℕ) (d : Route) → k < l.route-index → IsRoute l.timed l.series (get_or l.routes k d)
