use Rattle.std.proofs.Common.{◌≡◌}
use Rattle.exact_simplex.specs.Optima.{first_terms}
use Rattle.series_routes.specs.Loads.{edge_of}
use Rattle.series_routes.proofs.weighing.weights_of.Given as goal

abbrev pub invariant-loop-link : goal.invariant-loop-link
invariant-loop-link l = l.edges ≡ first_terms (edge_of l.timed l.routes) l.link
