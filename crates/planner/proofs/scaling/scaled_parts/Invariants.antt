use Rattle.std.proofs.Common.{◌≡◌, map, take}
use Rattle.planner.specs.Scales.{scaled_part}
use Rattle.planner.proofs.scaling.scaled_parts.Given as goal

abbrev pub invariant-loop-part : goal.invariant-loop-part
invariant-loop-part l = l.list ≡ map (scaled_part l.times l.divisor) (take l.part-index l.parts)
