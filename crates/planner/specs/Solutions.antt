-- Routes and parts from which a table is made.
use Rattle.std.specs.Prelude.{List}
use Rattle.platform_file.specs.Ticks.{TimedView}
use Rattle.schedule_model.specs.declared.schedule.Series.{Series}
use Rattle.flow_routes.specs.declared.flow.Route.{Route}
use Rattle.bipartite_slots.specs.Parts.{AreParts}
use Rattle.bipartite_slots.specs.declared.weights.SlotPart.{SlotPart}
use Rattle.series_routes.specs.declared.numbers.Scale.{Scale}
use Rattle.series_routes.specs.Loads.{weights_of}
use Rattle.series_routes.specs.Solutions.{IsRouting}

-- such routes, and parts that give each link the ticks to carry what they send over it
pub record IsSolution (t : TimedView) (series : Series) (scale : Scale) (routes : List Route) (parts : List SlotPart) : Type 0 where
  pub routing : IsRouting t series scale routes
  pub are_parts : AreParts (weights_of t routes) scale.ticks parts
