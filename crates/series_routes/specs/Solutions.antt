-- Routes of which a table can be made.
use Rattle.std.specs.Prelude.{◌≡◌, ℕ, ◌*◌, ◌%◌, ◌^◌, ◌<◌, ◌≤◌, true, List, length, All, nat_eq, sum_by}
use Rattle.std.specs.List.{IsDistinct}
use Rattle.platform_file.specs.Platform.{is_master}
use Rattle.platform_file.specs.Ticks.{TimedView}
use Rattle.schedule_model.specs.Operations.{cost_of, time_of}
use Rattle.schedule_model.specs.declared.schedule.Series.{Series}
use Rattle.schedule_model.specs.declared.schedule.Series.TheVariants.{Tasking, Scatter}
use Rattle.flow_routes.specs.Routes.{carried, brought}
use Rattle.flow_routes.specs.declared.flow.Route.{Route}
use Rattle.bipartite_slots.specs.Parts.{AreWithin}
use Rattle.period_table.specs.Tables.{first_node, nodes_on, IsWalk, EndsWell}
use Rattle.series_routes.specs.declared.numbers.Scale.{Scale}
use Rattle.series_routes.specs.Loads.{weights_of}
use Rattle.series_routes.specs.Routings.{tasks_of_kind}

-- a walk through different nodes from a master to a node that uses what it brings, which is no more than there are ticks
pub record IsRouteOf (t : TimedView) (series : Series) (ticks : ℕ) (route : Route) : Type 0 where
  pub from_master : is_master t.platform (first_node t route.links route.end) ≡ true
  pub walk : IsWalk t route.links route.end
  pub simple : IsDistinct nat_eq (nodes_on t route.links route.end)
  pub ending : EndsWell t series route
  pub inside : route.end < length t.platform.nodes
  pub short : length route.links < length t.platform.nodes
  pub some : 1 ≤ route.count
  pub bounded : route.count ≤ ticks

-- each node has the ticks to compute its tasks, and each target gets as many messages as the first one
abbrev pub AreUsed : TimedView → Series → ℕ → List Route → Type 0
AreUsed t Tasking ticks routes = (node : ℕ) → brought node routes * time_of t node ≤ ticks
AreUsed t Scatter ticks routes =
    (0 < length t.platform.targets) × ((kind : ℕ) → kind < length t.platform.targets → tasks_of_kind 0 routes ≡ tasks_of_kind kind routes)

-- routes whose tasks are used and for which each port has the ticks; where all of this lasts so many times as long, it lasts at most
-- 2^100 ticks and holds whole tasks
pub record IsRouting (t : TimedView) (series : Series) (scale : Scale) (routes : List Route) : Type 0 where
  pub some_ticks : 1 ≤ scale.ticks
  pub some_times : 1 ≤ scale.times
  pub short : scale.ticks * scale.times ≤ 2 ^ 100
  pub are_routes : All (IsRouteOf t series scale.ticks) routes
  pub few_routes : length routes ≤ 1280
  pub few_counts : sum_by (λ route. route.count) routes ≤ 256 * scale.ticks
  pub few_tasks : tasks_of_kind 0 routes ≤ 32 * scale.ticks
  pub slow : tasks_of_kind 0 routes * t.unit ≤ 64000000 * scale.ticks
  pub used : AreUsed t series scale.ticks routes
  pub within : AreWithin (weights_of t routes) scale.ticks
  pub whole : (link : ℕ) → 1 ≤ carried link routes → scale.times % cost_of t link ≡ 0
