use Rattle.std.proofs.Common.{◌≡◌, ◌<◌, ◌^◌, nat_abs, take, map, All}
use Rattle.scatter_program.specs.Programme.{gain_of}
use Rattle.scatter_program.proofs.programme.gains.Given as goal

abbrev pub invariant-loop-column : goal.invariant-loop-column
invariant-loop-column l = (l.gain ≡ map gain_of (take l.column-index l.columns)) × All (λ g. nat_abs g < 2 ^ 127) l.gain
