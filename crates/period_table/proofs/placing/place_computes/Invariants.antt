use Rattle.std.proofs.Common.{◌≡◌, ℕ, ◌+◌, ◌<◌, ◌≤◌, List, ◌++◌, [], drop, filter, get_or, sum_by, length}
use Rattle.flow_routes.specs.declared.flow.Route.{Route}
use Rattle.period_table.specs.TableSchedules.{has_arrived, computes_of_routes, tasks_at}
use Rattle.period_table.proofs.placing.place_computes.Given as goal

abbrev pub invariant-loop-route : goal.invariant-loop-route
invariant-loop-route l =
    (before : List Route)
    × (length l.used ≡ 32)
    × ((node : ℕ) → node < 32 → get_or l.used node 0 ≡ tasks_at node before)
    × (sum_by (λ route. route.count) before + sum_by (λ route. route.count) (filter (has_arrived l.period) (drop l.route-index l.routes)) ≤ 4000000)
    × (l.out.items ++ computes_of_routes l.timed l.start before (filter (has_arrived l.period) (drop l.route-index l.routes))
    ≡ l.fn.out.items ++ computes_of_routes l.timed l.start [] (filter (has_arrived l.period) l.routes))
