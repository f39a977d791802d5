use Rattle.std.proofs.Common.{arith}
use Rattle.series_routes.proofs.WeightsFit.{exist, are_apart}
use Rattle.planner.proofs.Parted.{few_ticks, links_small, in_time, small}
use Rattle.planner.proofs.making.parts_of.Goals as goal

pub weights_of-requires-clause-links : goal.weights_of-requires-clause-links
weights_of-requires-clause-links c = links_small c.args.timed.now c.known.ensures c.args.series c.args.scale c.args.routes.now c.requires

pub weights_of-requires-clause-room : goal.weights_of-requires-clause-room
weights_of-requires-clause-room c = λ link l.
    (let most = small c.args.timed.now c.known.ensures c.args.series c.args.scale c.args.routes.now c.requires link in
    let few = few_ticks c.args.timed.now c.known.ensures c.args.series c.args.scale c.args.routes.now c.requires in
    omega (arith, most, few))

pub weights_of-requires-clause-time : goal.weights_of-requires-clause-time
weights_of-requires-clause-time c = λ link l.
    (let most = in_time c.args.timed.now c.known.ensures c.args.series c.args.scale c.args.routes.now c.requires link in
    let few = few_ticks c.args.timed.now c.known.ensures c.args.series c.args.scale c.args.routes.now c.requires in
    omega (arith, most, few))

pub slots-requires-clause-exist : goal.slots-requires-clause-exist
slots-requires-clause-exist c = rw c.in_ok-weights.ensures (exist c.args.timed.now c.known.ensures c.args.routes.now)

pub slots-requires-clause-apart : goal.slots-requires-clause-apart
slots-requires-clause-apart c = rw c.in_ok-weights.ensures (are_apart c.args.timed.now c.known.ensures c.args.routes.now)
