use Rattle.std.proofs.Common.{nat_abs, SFits}
use Rattle.std.specs.Int.{w128}
use Prim.Native.Nat.{◌∣◌}
use Rattle.std.proofs.lemmas.Int.{to_z-of_z}
use Rattle.dense_tableau.proofs.Quotients.{divisor_some, divisor_below}
use Rattle.dense_tableau.proofs.row.multipliers_of.Goals as goal

pub quotient-requires : goal.quotient-requires
quotient-requires c =
    let fits : SFits w128 c.args.pivot_cell = c.ranges.pivot_cell in
    let size = rw (to_z-of_z _ _ fits) at c.unsigned_abs.ensures.value in
    let divides : c.gcd-divisor.result ∣ nat_abs c.args.pivot_cell = rw (← size) c.gcd-divisor.ensures.divisor.0 in
    record {
      some = divisor_some c.args.pivot_cell c.gcd-divisor.result c.requires divides;
      fits = divisor_below c.args.pivot_cell c.gcd-divisor.result fits c.requires divides;
    }

pub quotient-requires-2 : goal.quotient-requires-2
quotient-requires-2 c =
    let fits : SFits w128 c.args.pivot_cell = c.ranges.pivot_cell in
    let size = rw (to_z-of_z _ _ fits) at c.unsigned_abs.ensures.value in
    let divides : c.gcd-divisor.result ∣ nat_abs c.args.pivot_cell = rw (← size) c.gcd-divisor.ensures.divisor.0 in
    record {
      some = divisor_some c.args.pivot_cell c.gcd-divisor.result c.requires divides;
      fits = divisor_below c.args.pivot_cell c.gcd-divisor.result fits c.requires divides;
    }
