use Rattle.std.proofs.Common.{◌≡◌, ◌+◌, ◌^◌, take, min, cond, nat_eq, sum_by}
use Rattle.period_table.proofs.sums.kind_within.Given as goal

abbrev pub invariant-loop-route : goal.invariant-loop-route
invariant-loop-route l = l.sum ≡ min (sum_by (λ route. cond (nat_eq route.kind l.kind) route.count 0) (take l.route-index l.routes)) (2 ^ 107 + 1)
