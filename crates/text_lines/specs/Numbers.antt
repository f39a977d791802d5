-- Numbers as they are printed: in decimal digits, with no leading zero, and a minus sign before what is below 0.
use Rattle.std.specs.Prelude.{◌≡◌, ◌≤◌, ℕ, zero, suc, Bool, not, ◌&&◌, ◌||◌, nat_eq, nat_le, cond, ℤ, pos, negsuc, nat_abs, List, length, drop, slice_index, Option, Some, None, option_map, option_and_then, decimal}
use Rattle.std.specs.Fmt.{signed_decimal}
use Rattle.std.specs.Str.Parse.{digits_value}
use Rattle.ratio_core.specs.Texts.{is_number}

-- digits without a leading zero but in `0` itself
abbrev pub is_plain : List ℕ → Bool
is_plain text = is_number text && (nat_eq (length text) 1 || not (nat_eq (slice_index text 0) 48))

-- the number, where it is at most the bound
abbrev pub at_most : ℕ → ℕ → Option ℕ
at_most most n = cond (nat_le n most) (Some n) None

-- the number up to a bound that these digits write
abbrev pub number_of : ℕ → List ℕ → Option ℕ
number_of most text = cond (is_number text) (at_most most (digits_value 10 text)) None

-- the number up to a bound that is printed so
abbrev pub natural_of : ℕ → List ℕ → Option ℕ
natural_of most text = cond (is_plain text) (at_most most (digits_value 10 text)) None

-- the number below 0 of this size
abbrev pub below_zero : ℕ → Option ℤ
below_zero zero = None
below_zero (suc n) = Some (negsuc n)

-- the whole number up to a bound in size that is printed so
abbrev pub integer_of : ℕ → List ℕ → Option ℤ
integer_of most text =
    cond (nat_eq (slice_index text 0) 45) (option_and_then below_zero (natural_of most (drop 1 text))) (option_map pos (natural_of most text))

-- what is printed is read, and nothing else is
pub record IsReadAsPrinted (most : ℕ) : Type 0 where
  pub naturals : (n : ℕ) → n ≤ most → natural_of most (decimal n) ≡ Some n
  pub integers : (z : ℤ) → nat_abs z ≤ most → integer_of most (signed_decimal z) ≡ Some z
  pub only_naturals : (text : List ℕ) (n : ℕ) → natural_of most text ≡ Some n → (n ≤ most) × (text ≡ decimal n)
  pub only_integers : (text : List ℕ) (z : ℤ) → integer_of most text ≡ Some z → (nat_abs z ≤ most) × (text ≡ signed_decimal z)
