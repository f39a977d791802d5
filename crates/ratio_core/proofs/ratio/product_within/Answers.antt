use Rattle.std.proofs.Common.{◌≡◌, ℕ, ◌*◌, ◌^◌, ◌<◌, ◌≤◌, Option, Some, None, cond, nat_le, ◌/◌, true, false, sym, ap, ◌∙◌, refl, arith}
use Rattle.std.proofs.lemmas.Bool.Decides.{nat_tests}
use Rattle.ratio_core.specs.Fraction.{Fraction, gcd_of, reduced}
use Rattle.ratio_core.proofs.Products.{first, left, second, product_num, product_parts, product_reduced}
use Rattle.ratio_core.proofs.ratio.product_within.Goals as goal

-- the factors that are multiplied, and the denominator, are those of the two steps
module _ (a b den : ℕ) (one two : Fraction) (num rest factor last : ℕ)
    (is_one : one ≡ reduced a den) (is_num : num ≡ one.num) (is_rest : rest ≡ one.den) (is_two : two ≡ reduced b rest) (is_factor : factor ≡ two.num) (is_last : last ≡ two.den) where
  rest_left : rest ≡ left a b den
  rest_left = is_rest ∙ ap (λ (f : Fraction). f.den) is_one

  two_left : two ≡ reduced b (left a b den)
  two_left = is_two ∙ ap (reduced b) rest_left

  product : num * factor ≡ a / first a b den * (b / second a b den)
  product = rw (is_num ∙ ap (λ (f : Fraction). f.num) is_one, is_factor ∙ ap (λ (f : Fraction). f.num) two_left) refl

  quotient : last ≡ left a b den / second a b den
  quotient = is_last ∙ ap (λ (f : Fraction). f.den) two_left

inside : (f : Fraction) (n max : ℕ) → n ≤ max → n ≡ f.num → Some f ≡ cond (nat_le f.num max) (Some f) None
inside f n max l e = let t : nat_le f.num max ≡ true = grind (arith, nat_tests) in rw t refl

outside : (f : Fraction) (n max : ℕ) → max < n → n ≡ f.num → None ≡ cond (nat_le f.num max) (Some f) None
outside f n max l e = let t : nat_le f.num max ≡ false = grind (arith, nat_tests) in rw t refl

-- a product that doesn't fit exceeds every bound that does
past : (f : Fraction) (n max : ℕ) (r : Option Fraction) → r ≡ None → ¬ (n < 2 ^ 128) → max < 2 ^ 128 → n ≡ f.num → r ≡ cond (nat_le f.num max) (Some f) None
past f n max r none big small e = none ∙ outside f n max (omega (arith, big, small)) e

pub returns-in_err-num : goal.returns-in_err-num
returns-in_err-num c =
    let e = product c.args.a c.args.b c.args.den c.new-first.result c.new-second.result c.num.result c.den.result c.num-2.result c.new-second.result.den c.new-first.ensures c.num.ensures c.den.ensures.value c.new-second.ensures c.num-2.ensures refl in
    past (reduced (c.args.a * c.args.b) c.args.den) (c.num.result * c.num-2.result) c.args.max c.from_residual.result c.from_residual.ensures c.in_err-num.ensures c.ranges.max.fits (e ∙ sym (product_num c.args.a c.args.b c.args.den c.requires))

pub invariant_of-result : goal.invariant_of-result
invariant_of-result c =
    let e = product c.args.a c.args.b c.args.den c.new-first.result c.new-second.result c.num.result c.den.result c.num-2.result c.den-den.result c.new-first.ensures c.num.ensures c.den.ensures.value c.new-second.ensures c.num-2.ensures c.den-den.ensures.value in
    let f = quotient c.args.a c.args.b c.args.den c.new-first.result c.new-second.result c.num.result c.den.result c.num-2.result c.den-den.result c.new-first.ensures c.num.ensures c.den.ensures.value c.new-second.ensures c.num-2.ensures c.den-den.ensures.value in
    product_reduced c.args.a c.args.b c.args.den c.requires c.in_ok-num.num c.den-den.result (c.in_ok-num.ensures.1 ∙ e) f

pub returns-then-num-max : goal.returns-then-num-max
returns-then-num-max c =
    let e = product c.args.a c.args.b c.args.den c.new-first.result c.new-second.result c.num.result c.den.result c.num-2.result c.den-den.result c.new-first.ensures c.num.ensures c.den.ensures.value c.new-second.ensures c.num-2.ensures c.den-den.ensures.value in
    let f = quotient c.args.a c.args.b c.args.den c.new-first.result c.new-second.result c.num.result c.den.result c.num-2.result c.den-den.result c.new-first.ensures c.num.ensures c.den.ensures.value c.new-second.ensures c.num-2.ensures c.den-den.ensures.value in
    let num : c.in_ok-num.num ≡ c.args.a * c.args.b / gcd_of (c.args.a * c.args.b) c.args.den = c.in_ok-num.ensures.1 ∙ e ∙ sym (product_num c.args.a c.args.b c.args.den c.requires) in
    ap Some (product_parts c.args.a c.args.b c.args.den c.requires c.in_ok-num.num c.den-den.result (c.in_ok-num.ensures.1 ∙ e) f)
    ∙ inside (reduced (c.args.a * c.args.b) c.args.den) c.in_ok-num.num c.args.max c.if-num-max.true num

pub returns-else-num-max : goal.returns-else-num-max
returns-else-num-max c =
    let e = product c.args.a c.args.b c.args.den c.new-first.result c.new-second.result c.num.result c.den.result c.num-2.result c.new-second.result.den c.new-first.ensures c.num.ensures c.den.ensures.value c.new-second.ensures c.num-2.ensures refl in
    outside (reduced (c.args.a * c.args.b) c.args.den) c.in_ok-num.num c.args.max c.if-num-max.false (c.in_ok-num.ensures.1 ∙ e ∙ sym (product_num c.args.a c.args.b c.args.den c.requires))
