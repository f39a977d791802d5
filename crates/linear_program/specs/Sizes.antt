-- Whole numbers whose size is at most 2^127 - 1.
use Rattle.std.specs.Prelude.{◌^◌, ℤ, ◌-ℤ◌, ◌*ℤ◌, nat_abs, Option, Some, None, nat_lt, cond, option_and_then}

-- the number, where its size is below 2^127
abbrev pub fitting : ℤ → Option ℤ
fitting z = cond (nat_lt (nat_abs z) (2 ^ 127)) (Some z) None

-- `p * a - q * b`, where both products and the difference fit
abbrev pub fitting_combination : ℤ → ℤ → ℤ → ℤ → Option ℤ
fitting_combination p a q b =
    option_and_then (λ left. option_and_then (λ right. fitting (left -ℤ right)) (fitting (q *ℤ b))) (fitting (p *ℤ a))
