use Rattle.std.proofs.Common.{rules, ◌≡◌, pos, ◌*ℤ◌, sym, ◌∙◌}
use Rattle.linear_program.specs.Programmes.{gain_value}
use Rattle.bipartite_slots.specs.Parts.{AreParts}
use Rattle.series_flows.specs.Programmes.{programme_of}
use Rattle.series_routes.specs.Loads.{weights_of}
use Rattle.series_routes.specs.Routings.{tasks_of_kind, IsRoutedIn}
use Rattle.series_routes.specs.Solutions.{IsRouting}
use Rattle.planner.specs.Scales.{common_factor}
use Rattle.planner.specs.Solutions.{IsSolution}
use Rattle.planner.specs.Making.{table_with}
use Rattle.planner.proofs.Made.{some_g, tasks_whole, period_whole}
use Rattle.planner.proofs.Rated.{rated}
use Rattle.planner.proofs.making.table_of.Goals as goal

pub table_with-requires : goal.table_with-requires
table_with-requires c =
    let t = c.args.timed.now in
    let routes = c.as_slice-routes.result.now in
    let routing : IsRouting t c.args.series c.in_ok-routing.routing.scale routes = rw c.as_slice-routes.ensures c.in_ok-routing.ensures.routing in
    let parts : AreParts (weights_of t routes) c.in_ok-routing.routing.scale.ticks c.deref.result.now = rw c.deref.ensures.value c.in_ok-parts.ensures.parts in
    record { routing = routing; are_parts = parts }

pub returns-clause-rate : goal.returns-clause-rate
returns-clause-rate c = λ p.
    (let t = c.args.timed.now in
    let series = c.args.series in
    let scale = c.in_ok-routing.routing.scale in
    let routes = c.as_slice-routes.result.now in
    let parts = c.deref.result.now in
    let routing : IsRouting t series scale routes = rw c.as_slice-routes.ensures c.in_ok-routing.ensures.routing in
    let are_parts : AreParts (weights_of t routes) scale.ticks parts = rw c.deref.ensures.value c.in_ok-parts.ensures.parts in
    let solution : IsSolution t series scale routes parts = record { routing = routing; are_parts = are_parts } in
    let gain : pos p.den *ℤ pos (tasks_of_kind 0 routes) ≡ pos scale.ticks *ℤ gain_value (programme_of t series) p.point = rw c.as_slice-routes.ensures (c.in_ok-routing.ensures.gain p) in
    rw c.in_ok-table_with.ensures.value
    (rated (gain_value (programme_of t series) p.point) (table_with t scale routes parts).tasks p.den (table_with t scale routes parts).period (tasks_of_kind 0 routes) scale.ticks scale.times
    (common_factor t scale.times scale.ticks routes parts) (some_g t series scale routes parts c.known.ensures solution) routing.some_ticks gain (tasks_whole t series scale routes parts c.known.ensures solution) (period_whole t series scale routes parts c.known.ensures solution)))

pub returns-clause-valid : goal.returns-clause-valid
returns-clause-valid c = λ n. c.table_schedules_hold.ensures.valid c.args.timed.now c.args.series c.in_ok-table_with.field-0 n c.known.ensures c.in_ok-table_with.ensures.fits c.in_ok-table_with.ensures.ports
