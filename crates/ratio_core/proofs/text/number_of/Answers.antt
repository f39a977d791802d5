use Rattle.std.proofs.Common.{◌≡◌, ℕ, ◌-◌, ◌^◌, ◌<◌, true, List, length, Result, Ok, Err, inl, inr, rules, cond, ap, sym, ◌∙◌}
use Rattle.std.proofs.lemmas.Bool.{cases_lt, lt-ltb, le-ltb}
use Rattle.std.specs.Result.{OkIff, result_unwrap_or}
use Rattle.std.specs.Char.{is_ascii_digit}
use Rattle.std.specs.List.{list_all}
use Rattle.std.specs.Str.Parse.{digits_value}
use Rattle.std.proofs.lemmas.Str.Parse.{IsNumeralModel, numerals_by_value, parse_digits}
use Rattle.ratio_core.specs.Texts.{capped, is_number}
use Rattle.ratio_core.proofs.text.number_of.Goals as goal

own : IsNumeralModel (λ ds. list_all is_ascii_digit ds ≡ true) (digits_value 10)
own = numerals_by_value _ (search rules)

-- what was read, or the greatest number where it didn't fit
unwrapped : {E : Type 0} (r : Result ℕ E) (digits v : ℕ) → 0 < digits → OkIff r ((0 < digits) × (v < 2 ^ 128)) v → result_unwrap_or r (2 ^ 128 - 1) ≡ capped v
unwrapped (Ok x) digits v some fits = fits.1 ∙ ap (λ b. cond b v (2 ^ 128 - 1)) (sym (lt-ltb v (2 ^ 128) fits.0.1))
unwrapped (Err e) digits v some not =
    elim (cases_lt v (2 ^ 128)) [
      | inl l ↦ absurd (not (some, l))
      | inr l ↦ ap (λ b. cond b v (2 ^ 128 - 1)) (sym (le-ltb v (2 ^ 128) l))
    ]

pub returns : goal.returns
returns c =
    c.unwrap_or.ensures
    ∙ unwrapped c.parse.result (length c.args.digits.now) (digits_value 10 c.args.digits.now) (some_digits c.args.digits.now c.requires)
    (parse_digits own 128 c.args.digits.now c.parse.result c.parse.ensures.value.0 (search rules))
  where
    some_digits : (digits : List ℕ) → is_number digits ≡ true → 0 < length digits
    some_digits digits e = search rules
