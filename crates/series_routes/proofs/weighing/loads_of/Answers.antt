use Rattle.std.proofs.Common.{◌*◌, nat_eq, count_by, refl, arith}
use Rattle.std.proofs.lemmas.List.{get_or-replicate}
use Rattle.std.proofs.lemmas.List.Sums.{sum_by_more_le}
use Rattle.flow_routes.specs.declared.flow.Route.{Route}
use Rattle.series_routes.proofs.weighing.loads_of.Goals as goal

pub loop-route-init : goal.loop-route-init
loop-route-init c = record { size = refl; loads = λ link l. get_or-replicate 128 link 0 0 l }

pub add_route-requires-clause-room : goal.add_route-requires-clause-room
add_route-requires-clause-room c = λ link l.
    let most = sum_by_more_le (λ (route : Route). count_by (nat_eq link) route.links * route.count) c.args.routes.now c.loop-route.route-index c.route-item.result c.loop-route-test.true in
    let all = c.requires.room link l in
    rw (c.loop-route.invariant.loads link l, c.route-item.is) (omega (arith, most, all))
