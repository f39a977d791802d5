-- What the links have to carry for some routes, as weights between their ends.
use Rattle.std.specs.Prelude.{ℕ, ◌*◌, List, length}
use Rattle.platform_file.specs.Ticks.{TimedView}
use Rattle.schedule_model.specs.Operations.{cost_of, sender_of, receiver_of}
use Rattle.flow_routes.specs.Routes.{carried}
use Rattle.flow_routes.specs.declared.flow.Route.{Route}
use Rattle.bipartite_slots.specs.declared.weights.Edge.{Edge}
use Rattle.bipartite_slots.specs.declared.weights.Weights.{Weights}
use Rattle.exact_simplex.specs.Optima.{first_terms}

-- for how long a link is in use
abbrev pub edge_of : TimedView → List Route → ℕ → Edge
edge_of t routes link = record { from = sender_of t link; to = receiver_of t link; weight = cost_of t link * carried link routes }

-- an edge for each link, in their order
abbrev pub weights_of : TimedView → List Route → Weights
weights_of t routes = record { nodes = length t.platform.nodes; edges = first_terms (edge_of t routes) (length t.platform.links) }
