use Rattle.std.proofs.Common.{rules, ◌≤◌, ◌∙◌, subst, arith}
use Rattle.std.specs.Int.{IsGcd}
use Rattle.plan_text.proofs.LineReads.{rate_lowest, rate_found}
use Rattle.plan_text.proofs.head.rate_in.Goals as goal

pub returns-then-den-eq0 : goal.returns-then-den-eq0
returns-then-den-eq0 c = λ rate line.
    omega (arith, c.if-den-eq0.true, (rate_lowest c.args.text.now c.in-Some.rest.now c.in-Some-pair_round.num c.in-Some-pair_round.den c.in-Some.ensures c.in-Some-pair_round.ensures rate line).0)

pub returns-then-gcd-ne1 : goal.returns-then-gcd-ne1
returns-then-gcd-ne1 c = λ rate line.
    c.if-gcd-ne1.true (c.gcd.ensures.value ∙ (rate_lowest c.args.text.now c.in-Some.rest.now c.in-Some-pair_round.num c.in-Some-pair_round.den c.in-Some.ensures c.in-Some-pair_round.ensures rate line).1)

pub returns : goal.returns
returns c =
    let some : 1 ≤ c.in-Some-pair_round.den = omega (arith, c.if-den-eq0.false) in
    let lowest : IsGcd c.in-Some-pair_round.num c.in-Some-pair_round.den 1 = subst (IsGcd c.in-Some-pair_round.num c.in-Some-pair_round.den) (search rules) c.gcd.ensures.divisor in
    rate_found c.args.text.now c.in-Some.rest.now c.in-Some-pair_round.num c.in-Some-pair_round.den c.in-Some.ensures c.in-Some-pair_round.ensures some lowest
