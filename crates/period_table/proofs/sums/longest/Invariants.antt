use Rattle.std.proofs.Common.{◌≡◌, drop, max}
use Rattle.period_table.specs.Tables.{longest}
use Rattle.period_table.proofs.sums.longest.Given as goal

abbrev pub invariant-loop-route : goal.invariant-loop-route
invariant-loop-route l = max l.most (longest (drop l.route-index l.routes)) ≡ longest l.routes
