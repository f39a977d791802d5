-- How many operations a table's schedule has, by its lanes and routes alone (this project).
use Rattle.std.specs.Prelude.{ℕ, ◌-◌, ◌*◌, List, length, sum_by}
use Rattle.schedule_model.specs.declared.schedule.Series.{Series}
use Rattle.schedule_model.specs.declared.schedule.Series.TheVariants.{Tasking, Scatter}
use Rattle.flow_routes.specs.declared.flow.Route.{Route}
use Rattle.period_table.specs.Lanes.{LaneAt}

-- the sends of the first periods: a batch crosses a lane in each period from its hop on
abbrev pub sends_below : List LaneAt → ℕ → ℕ
sends_below lanes n = sum_by (λ lane. (n - lane.hop) * lane.count) lanes

-- their computations: a batch is computed at a route's end in each period from its length on
abbrev pub computes_below : Series → List Route → ℕ → ℕ
computes_below Tasking routes n = sum_by (λ route. (n - length route.links) * route.count) routes
computes_below Scatter routes n = 0
