use Rattle.std.proofs.Common.{◌≡◌, ℕ, length}
use Rattle.exact_simplex.specs.Optima.{first_terms}
use Rattle.flow_routes.specs.declared.flow.Flow.{Flow}
use Rattle.series_routes.specs.Routings.{AreRoutesBelow}
use Rattle.series_routes.proofs.routing.routes_of.Given as goal

abbrev pub invariant-loop-kind : goal.invariant-loop-kind
invariant-loop-kind l = (flow : ℕ → Flow) → l.flows ≡ first_terms flow (length l.flows) → AreRoutesBelow flow l.kind l.list
