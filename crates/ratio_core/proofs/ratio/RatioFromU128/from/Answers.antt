use Rattle.std.proofs.Common.{arith}
use Rattle.std.proofs.Math.Nat.{one-dvd}
use Rattle.ratio_core.proofs.ratio.RatioFromU128.from.Goals as goal

pub invariant_of-result : goal.invariant_of-result
invariant_of-result c = record { some_den = omega arith; lowest = (one-dvd _, one-dvd _, λ d left right. right) }
