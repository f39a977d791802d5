use Rattle.std.proofs.Common.{arith}
use Rattle.schedule_model.specs.declared.schedule.Series.TheVariants.{Scatter}
use Rattle.planner.proofs.Parted.{few_ticks, links_small, in_time, small}
use Rattle.plan_tests.proofs.tests.routings.tells_weights.Goals as goal

pub weights_of-requires-clause-links : goal.weights_of-requires-clause-links
weights_of-requires-clause-links c = rw c.as_slice.ensures (links_small c.args.timed.now c.known.ensures Scatter c.args.routing.now.scale c.args.routing.now.routes c.requires)

pub weights_of-requires-clause-room : goal.weights_of-requires-clause-room
weights_of-requires-clause-room c = λ link l.
    (let most = small c.args.timed.now c.known.ensures Scatter c.args.routing.now.scale c.args.routing.now.routes c.requires link in
    let few = few_ticks c.args.timed.now c.known.ensures Scatter c.args.routing.now.scale c.args.routing.now.routes c.requires in
    rw c.as_slice.ensures (omega (arith, most, few)))

pub weights_of-requires-clause-time : goal.weights_of-requires-clause-time
weights_of-requires-clause-time c = λ link l.
    (let most = in_time c.args.timed.now c.known.ensures Scatter c.args.routing.now.scale c.args.routing.now.routes c.requires link in
    let few = few_ticks c.args.timed.now c.known.ensures Scatter c.args.routing.now.scale c.args.routing.now.routes c.requires in
    rw c.as_slice.ensures (omega (arith, most, few)))
