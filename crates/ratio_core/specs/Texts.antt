-- Fractions written as text.
use Rattle.std.specs.Prelude.{ℕ, ◌∷◌, ◌^◌, ◌-◌, ◌≤◌, Bool, ◌&&◌, ◌||◌, if◌then◌else◌, nat_eq, nat_lt, List, [], length, Result, Ok, Err}
use Rattle.std.specs.Char.{is_ascii_digit}
use Rattle.std.specs.List.{list_all, position_or_len, before_first, after_first}
use Rattle.std.specs.Str.Parse.{digits_value}
use Rattle.ratio_core.specs.Fraction.{Fraction, reduced}
use Rattle.ratio_core.specs.declared.text.RatioFault.{RatioFault}
use Rattle.ratio_core.specs.declared.text.RatioFault.TheVariants.{Shape, Zero, TooLarge}

-- both parts are from 1 to a million
pub record HasSmallParts (f : Fraction) : Type 0 where
  pub some_num : 1 ≤ f.num
  pub small_num : f.num ≤ 1000000
  pub some_den : 1 ≤ f.den
  pub small_den : f.den ≤ 1000000

-- at least one digit, and nothing but digits
abbrev pub is_number : List ℕ → Bool
is_number text = nat_lt 0 (length text) && list_all is_ascii_digit text

-- the byte is `/`
abbrev pub is_slash : ℕ → Bool
is_slash b = nat_eq b 47

-- the fraction of two parts, each from 1 to a million
abbrev pub ratio_of_parts : ℕ → ℕ → Result Fraction RatioFault
ratio_of_parts num den =
    if nat_eq num 0 || nat_eq den 0 then Err Zero
    else (if nat_lt 1000000 num || nat_lt 1000000 den then Err TooLarge else Ok (reduced num den))

-- the fraction of two texts, each a number
abbrev pub ratio_of_texts : List ℕ → List ℕ → Result Fraction RatioFault
ratio_of_texts num den =
    if is_number num && is_number den then ratio_of_parts (digits_value 10 num) (digits_value 10 den) else Err Shape

-- the fraction of a text: two numbers round its first slash, or one number over 1
abbrev pub ratio_of : List ℕ → Result Fraction RatioFault
ratio_of text =
    if nat_lt (position_or_len is_slash text) (length text) then ratio_of_texts (before_first is_slash text) (after_first is_slash text)
    else ratio_of_texts text (49 ∷ [])

-- the number, or the greatest of 128 bits where it needs more
abbrev pub capped : ℕ → ℕ
capped n = if nat_lt n (2 ^ 128) then n else 2 ^ 128 - 1
