use Rattle.std.proofs.Common.{◌≡◌, ◌*◌, ◌/◌, map, drop}
use Rattle.schedule_model.specs.Operations.{cost_of}
use Rattle.planner.specs.Scales.{factor_with, part_numbers}
use Rattle.planner.proofs.scaling.factor_of_part.Given as goal

abbrev pub invariant-loop-link : goal.invariant-loop-link
invariant-loop-link l =
    factor_with l.common (map (λ link. l.part.duration * l.times / cost_of l.timed link) (drop l.link-index l.part.edges)) ≡ factor_with l.start (part_numbers l.timed l.times l.part)
