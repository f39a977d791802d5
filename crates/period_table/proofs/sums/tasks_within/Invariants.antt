use Rattle.std.proofs.Common.{◌≡◌, ◌+◌, ◌^◌, take, min, sum_by}
use Rattle.period_table.proofs.sums.tasks_within.Given as goal

abbrev pub invariant-loop-route : goal.invariant-loop-route
invariant-loop-route l = l.sum ≡ min (sum_by (λ route. route.count) (take l.route-index l.routes)) (2 ^ 107 + 1)
