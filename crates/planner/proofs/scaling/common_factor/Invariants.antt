use Rattle.std.proofs.Common.{◌≡◌, drop, flat_map}
use Rattle.planner.specs.Scales.{factor_with, part_numbers, common_factor}
use Rattle.planner.proofs.scaling.common_factor.Given as goal

abbrev pub invariant-loop-part : goal.invariant-loop-part
invariant-loop-part l = factor_with l.common (flat_map (part_numbers l.timed l.times) (drop l.part-index l.parts)) ≡ common_factor l.timed l.times l.ticks l.routes l.parts
