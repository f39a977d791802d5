use Rattle.std.proofs.Common.{rules, ◌≡◌}
use Rattle.std.proofs.lemmas.Nat.Gcd.{IsGcd-from_zero, IsGcd-swap}
use Rattle.ratio_core.proofs.GcdLemmas.{gcd_of_is}
use Rattle.dense_tableau.proofs.row.common_divisor.Goals as goal

pub returns-then-size-eq0 : goal.returns-then-size-eq0
returns-then-size-eq0 c =
    let none : c.args.size ≡ 0 = search rules in
    gcd_of_is c.args.divisor c.args.size c.args.divisor (IsGcd-from_zero c.args.divisor c.args.size none)

pub returns-else-size-eq0 : goal.returns-else-size-eq0
returns-else-size-eq0 c = gcd_of_is c.args.divisor c.args.size c.gcd.result (IsGcd-swap c.args.size c.args.divisor c.gcd.result c.gcd.ensures.divisor)
