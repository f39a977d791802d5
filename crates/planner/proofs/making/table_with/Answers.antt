use Rattle.std.proofs.Common.{◌≡◌, ℕ, ◌+◌, ◌*◌, ◌/◌, ◌^◌, ◌≤◌, map, min, sym, ap, subst, arith}
use Rattle.period_table.specs.Lanes.{lanes_of}
use Rattle.period_table.specs.Cuts.{cut_slots}
use Rattle.period_table.specs.Tables.{Fits, KeepsPorts, longest}
use Rattle.planner.specs.Scales.{common_factor, scaled_route, scaled_part}
use Rattle.planner.proofs.Made.{some_g, parts_small, edges_there, new_lanes_there, deep, lanes_few, lanes_light, separate_parts, new_time, tasks_few, fits, keeps, has_tasks, has_time}
use Rattle.planner.proofs.making.table_with.Goals as goal

pub common_factor-divisor-requires-clause-exist : goal.common_factor-divisor-requires-clause-exist
common_factor-divisor-requires-clause-exist c = edges_there c.args.timed.now c.args.series c.args.scale c.args.routes.now c.args.parts.now c.known.ensures c.requires

pub scaled_routes-requires-clause-some : goal.scaled_routes-requires-clause-some
scaled_routes-requires-clause-some c = rw c.common_factor-divisor.ensures (some_g c.args.timed.now c.args.series c.args.scale c.args.routes.now c.args.parts.now c.known.ensures c.requires)

pub scaled_parts-requires-clause-some : goal.scaled_parts-requires-clause-some
scaled_parts-requires-clause-some c = rw c.common_factor-divisor.ensures (some_g c.args.timed.now c.args.series c.args.scale c.args.routes.now c.args.parts.now c.known.ensures c.requires)

pub scaled_parts-requires-clause-short : goal.scaled_parts-requires-clause-short
scaled_parts-requires-clause-short c = parts_small c.args.timed.now c.args.series c.args.scale c.args.routes.now c.args.parts.now c.known.ensures c.requires

pub cut-requires-clause-exist : goal.cut-requires-clause-exist
cut-requires-clause-exist c =
    rw (c.as_slice.ensures, c.in_ok-routes.ensures, c.common_factor-divisor.ensures) (new_lanes_there c.args.timed.now c.args.series c.args.scale c.args.routes.now c.args.parts.now c.known.ensures c.requires)

pub cut-requires-clause-deep : goal.cut-requires-clause-deep
cut-requires-clause-deep c =
    rw (c.as_slice.ensures, c.in_ok-routes.ensures, c.common_factor-divisor.ensures)
    (let most = deep c.args.timed.now c.args.series c.args.scale c.args.routes.now c.args.parts.now c.known.ensures c.requires in omega (arith, most))

pub cut-requires-clause-few : goal.cut-requires-clause-few
cut-requires-clause-few c =
    rw (c.as_slice.ensures, c.in_ok-routes.ensures, c.common_factor-divisor.ensures) (lanes_few c.args.timed.now c.args.series c.args.scale c.args.routes.now c.args.parts.now c.known.ensures c.requires)

pub cut-requires-clause-short : goal.cut-requires-clause-short
cut-requires-clause-short c =
    rw (c.as_slice.ensures, c.in_ok-routes.ensures, c.common_factor-divisor.ensures) (lanes_light c.args.timed.now c.args.series c.args.scale c.args.routes.now c.args.parts.now c.known.ensures c.requires)

pub cut-requires-clause-parts : goal.cut-requires-clause-parts
cut-requires-clause-parts c =
    rw (c.as_slice-2.ensures, c.in_ok-parts.ensures, c.common_factor-divisor.ensures) (separate_parts c.args.timed.now c.args.series c.args.scale c.args.routes.now c.args.parts.now c.known.ensures c.requires)

pub cut-requires-clause-time : goal.cut-requires-clause-time
cut-requires-clause-time c =
    rw (c.as_slice-2.ensures, c.in_ok-parts.ensures, c.common_factor-divisor.ensures) (new_time c.args.timed.now c.args.series c.args.scale c.args.routes.now c.args.parts.now c.known.ensures c.requires)

pub nonzero_div-result : goal.nonzero_div-result
nonzero_div-result c =
    rw c.common_factor-divisor.ensures (some_g c.args.timed.now c.args.series c.args.scale c.args.routes.now c.args.parts.now c.known.ensures c.requires)

pub overflow_cast-result : goal.overflow_cast-result
overflow_cast-result c =
    rw (c.longest.ensures, c.as_slice-4.ensures, c.in_ok-routes.ensures, c.common_factor-divisor.ensures)
    (let most = deep c.args.timed.now c.args.series c.args.scale c.args.routes.now c.args.parts.now c.known.ensures c.requires in omega (arith, most))

pub returns-clause-value : goal.returns-clause-value
returns-clause-value c =
    let t = c.args.timed.now in
    let factor = c.common_factor-divisor.ensures in
    let routes = rw factor at c.in_ok-routes.ensures in
    let few = tasks_few t c.args.series c.args.scale c.args.routes.now c.args.parts.now c.known.ensures c.requires in
    rw (c.kind_within.ensures, c.longest.ensures, c.as_slice-3.ensures, c.as_slice-4.ensures, c.in_ok-slots.ensures, c.as_slice.ensures, c.as_slice-2.ensures, c.in_ok-routes.ensures, c.in_ok-parts.ensures, factor)
    (ap (λ n. record {
      period = c.args.scale.ticks * c.args.scale.times / common_factor t c.args.scale.times c.args.scale.ticks c.args.routes.now c.args.parts.now;
      tasks = n;
      depth = longest (map (scaled_route c.args.scale.times (common_factor t c.args.scale.times c.args.scale.ticks c.args.routes.now c.args.parts.now)) c.args.routes.now);
      routes = map (scaled_route c.args.scale.times (common_factor t c.args.scale.times c.args.scale.ticks c.args.routes.now c.args.parts.now)) c.args.routes.now;
      slots = cut_slots t (lanes_of (map (scaled_route c.args.scale.times (common_factor t c.args.scale.times c.args.scale.ticks c.args.routes.now c.args.parts.now)) c.args.routes.now)) (map (scaled_part c.args.scale.times (common_factor t c.args.scale.times c.args.scale.ticks c.args.routes.now c.args.parts.now)) c.args.parts.now);
    }) (least _ few))
  where
    least : (n : ℕ) → n ≤ 2 ^ 105 → min n (2 ^ 107 + 1) ≡ n
    least n h = omega (arith, h)

pub returns-clause-fits : goal.returns-clause-fits
returns-clause-fits c =
    let laws = c.cuts_keep_ports.ensures in
    let t = c.args.timed.now in
    let tasks = has_tasks t c.args.series c.args.scale c.args.routes.now c.args.parts.now c.known.ensures c.requires in
    subst (Fits t c.args.series) (sym (returns-clause-value c)) (fits t c.args.series c.args.scale c.args.routes.now c.args.parts.now c.known.ensures c.requires (laws.slots t) (laws.moved t) (laws.as_many t) (laws.as_long t) tasks)

pub returns-clause-ports : goal.returns-clause-ports
returns-clause-ports c =
    let laws = c.cuts_keep_ports.ensures in
    let t = c.args.timed.now in
    let time = has_time t c.args.series c.args.scale c.args.routes.now c.args.parts.now c.known.ensures c.requires in
    subst (KeepsPorts t c.args.series) (sym (returns-clause-value c)) (keeps t c.args.series c.args.scale c.args.routes.now c.args.parts.now c.known.ensures c.requires (laws.slots t) (laws.moved t) (laws.as_many t) (laws.as_long t) time (laws.matchings t))
