use Rattle.std.proofs.Common.{◌+◌, ◌*◌, drop, map, flat_map, sym, ◌∙◌}
use Rattle.flow_routes.specs.declared.flow.Route.{Route}
use Rattle.planner.specs.Scales.{part_numbers}
use Rattle.planner.proofs.Factors.{factor_append, next_of}
use Rattle.planner.proofs.scaling.common_factor.Goals as goal

pub loop-part-init : goal.loop-part-init
loop-part-init c =
    rw c.factor_of_routes-common.ensures (sym (factor_append (c.args.ticks * c.args.times) (map (λ (route : Route). route.count * c.args.times) c.args.routes.now) (flat_map (part_numbers c.args.timed.now c.args.times) c.args.parts.now)))

pub loop-part-preserved : goal.loop-part-preserved
loop-part-preserved c =
    let left = next_of c.args.parts.now c.loop-part.part-index c.part-item.result c.loop-part-test.true c.part-item.is in
    rw c.factor_of_part-common.ensures
    (sym (factor_append c.loop-part.common (part_numbers c.args.timed.now c.args.times c.part-item.result) (flat_map (part_numbers c.args.timed.now c.args.times) (drop (c.loop-part.part-index + 1) c.args.parts.now)))
    ∙ rw left at c.loop-part.invariant)
