use Rattle.std.proofs.Common.{◌≡◌, ℕ, ◌<◌, cond, nat_eq, sum_by}
use Rattle.period_table.proofs.fitting.each_kind_has.Given as goal

abbrev pub invariant-loop-kind : goal.invariant-loop-kind
invariant-loop-kind l = (kind : ℕ) → kind < l.kind → l.tasks ≡ sum_by (λ route. cond (nat_eq route.kind kind) route.count 0) l.routes
