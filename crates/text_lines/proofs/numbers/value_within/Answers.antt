use Rattle.std.proofs.Common.{rules, ◌≡◌, ◌+◌, ◌-◌, ◌*◌, ◌<◌, ◌≤◌, ◌^◌, get_or, arith, sym, ◌∙◌, ℕ}
use Rattle.std.proofs.Common.{inl, inr}
use Rattle.std.proofs.lemmas.Bool.{cases_lt}
use Rattle.std.proofs.lemmas.Grind.{common_steps}
use Rattle.text_lines.proofs.Digits.{too_great, digit_there}
use Rattle.text_lines.proofs.numbers.value_within.Goals as goal

not_below : (n : ℕ) → (n < 2 ^ 128 → ⊥) → 2 ^ 128 ≤ n
not_below n h = elim (cases_lt n (2 ^ 128)) [ inl less ↦ absurd (h less) | inr more ↦ more ]

pub returns-in_err-checked_mul : goal.returns-in_err-checked_mul
returns-in_err-checked_mul c =
    let fits : c.args.most < 2 ^ 128 = search rules in
    let over : 2 ^ 128 ≤ c.loop-digit.value * 10 = not_below _ (λ l. c.in_err-checked_mul.ensures (omega (arith, l))) in
    c.from_residual.ensures
    ∙ sym (too_great c.args.most c.loop-digit.value c.args.digits.now c.loop-digit.digit-index c.loop-digit-test.true c.loop-digit.invariant (omega (arith, fits, over)))

pub returns-in_err-value : goal.returns-in_err-value
returns-in_err-value c =
    let fits : c.args.most < 2 ^ 128 = search rules in
    let product : c.in_ok-checked_mul.field-0 ≡ c.loop-digit.value * 10 = search rules in
    let digit : c.from.result ≡ get_or c.args.digits.now c.loop-digit.digit-index 0 - 48 = search rules in
    let worth = digit_there c.args.digits.now c.loop-digit.digit-index c.requires c.loop-digit-test.true in
    let over : 2 ^ 128 ≤ c.in_ok-checked_mul.field-0 + c.from.result = not_below _ (λ l. c.in_err-value.ensures (omega (arith, l))) in
    c.from_residual-in_err-value.ensures
    ∙ sym (too_great c.args.most c.loop-digit.value c.args.digits.now c.loop-digit.digit-index c.loop-digit-test.true c.loop-digit.invariant (omega (arith, fits, over, product, digit, worth)))

pub returns-else-value-most : goal.returns-else-value-most
returns-else-value-most c = grind (arith, common_steps)
