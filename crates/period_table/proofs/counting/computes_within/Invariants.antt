use Rattle.std.proofs.Common.{◌≡◌, ◌-◌, ◌*◌, take, min, sum_by, length}
use Rattle.period_table.proofs.counting.computes_within.Given as goal

abbrev pub invariant-loop-route : goal.invariant-loop-route
invariant-loop-route l = l.sum ≡ min (sum_by (λ route. (l.periods - length route.links) * route.count) (take l.route-index l.routes)) 4000001
