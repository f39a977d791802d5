-- The table that a solution makes. Source: this project, after the periodic schedules of Beaumont, Legrand and Robert.
use Rattle.std.specs.Prelude.{◌≡◌, ℕ, ◌*◌, ◌/◌, List, length, map}
use Rattle.ratio_core.specs.Fraction.{Fraction}
use Rattle.platform_file.specs.Ticks.{TimedView}
use Rattle.schedule_model.specs.declared.schedule.Series.{Series}
use Rattle.flow_routes.specs.declared.flow.Route.{Route}
use Rattle.bipartite_slots.specs.Parts.{padded, AreParts, AreChosen as AreChosenParts}
use Rattle.bipartite_slots.specs.declared.weights.SlotPart.{SlotPart}
use Rattle.period_table.specs.Lanes.{lanes_of}
use Rattle.period_table.specs.Cuts.{cut_slots}
use Rattle.period_table.specs.Tables.{longest}
use Rattle.period_table.specs.declared.table.Table.{Table}
use Rattle.series_routes.specs.declared.numbers.Scale.{Scale}
use Rattle.series_routes.specs.Routings.{tasks_of_kind, IsRoutedIn}
use Rattle.series_routes.specs.Loads.{weights_of}
use Rattle.planner.specs.Scales.{common_factor, scaled_route, scaled_part}

-- the table of some routes and parts, all divided by a number; its tasks are those of the first kind, of which there are as many as of each
abbrev pub divided_table : TimedView → Scale → ℕ → List Route → List SlotPart → Table
divided_table t scale divisor routes parts = record {
  period = scale.ticks * scale.times / divisor;
  tasks = tasks_of_kind 0 (map (scaled_route scale.times divisor) routes);
  depth = longest (map (scaled_route scale.times divisor) routes);
  routes = map (scaled_route scale.times divisor) routes;
  slots = cut_slots t (lanes_of (map (scaled_route scale.times divisor) routes)) (map (scaled_part scale.times divisor) parts);
}

-- the table of some routes and parts, in lowest terms
abbrev pub table_with : TimedView → Scale → List Route → List SlotPart → Table
table_with t scale routes parts = divided_table t scale (common_factor t scale.times scale.ticks routes parts) routes parts

-- the parts are the ruled ones of the routes' loads
abbrev pub AreFirstParts : TimedView → ℕ → List Route → List SlotPart → Type 0
AreFirstParts t total routes parts = AreChosenParts (2 * length t.platform.nodes) (weights_of t routes).edges (padded (weights_of t routes) total) total parts

-- the table is the one of the ruled routes of the values' flows and of the ruled parts of what these send over the links
pub record IsTableOf (t : TimedView) (series : Series) (values : List Fraction) (table : Table) : Type 0 where
  pub scale : Scale
  pub routes : List Route
  pub routed : IsRoutedIn t series values scale routes
  pub parts : List SlotPart
  pub parted : AreParts (weights_of t routes) scale.ticks parts
  pub first_parts : AreFirstParts t scale.ticks routes parts
  pub same : table ≡ table_with t scale routes parts
