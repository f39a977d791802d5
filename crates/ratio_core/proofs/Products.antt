-- A product over a denominator is reduced factor by factor.
use Rattle.std.proofs.Common.{◌≡◌, ℕ, ◌*◌, ◌/◌, ◌<◌, ◌≤◌, refl, sym, ◌∙◌, ap, subst}
use Rattle.std.specs.Int.{IsGcd}
use Prim.Native.Nat.{◌∣◌}
use Rattle.std.proofs.lemmas.Nat.{mul-le}
use Rattle.std.proofs.Math.Nat.{div-mul_cancel, dvd-mul_left_of_dvd, mul_assoc, mul_comm, dvd-mul_right_of_dvd, one-mul, mul-div_cancel, div-div-eq-div-mul}
use Rattle.ratio_core.specs.Fraction.{gcd_of, reduced, IsReduced}
use Rattle.ratio_core.proofs.GcdLemmas.{gcd_positive, quotient_positive, gcd_of_is, quotients_are_coprime}
use Rattle.ratio_core.proofs.Multiples.{gcd_scaled, searched_is_gcd}

-- a factor without a common divisor takes no part
coprime_factor : (a b d h : ℕ) → IsGcd a d 1 → IsGcd b d h → IsGcd (a * b) d h
coprime_factor a b d h coprime g = (
  dvd-mul_left_of_dvd h g.0 a,
  g.1,
  λ x left right. g.2 x (subst (λ n. x ∣ n) (one-mul b) ((gcd_scaled a d 1 b coprime).2 x left (dvd-mul_right_of_dvd x right b))) right,
)

module _ (a b den : ℕ) where
  abbrev pub first : ℕ
  first = gcd_of a den

  abbrev pub left : ℕ
  left = den / first

  abbrev pub second : ℕ
  second = gcd_of b left

  module _ (some : 1 ≤ den) where
    first_positive : 0 < first
    first_positive = gcd_positive a den first some (searched_is_gcd a den)

    some_left : 1 ≤ left
    some_left = quotient_positive den first some (searched_is_gcd a den).1

    second_positive : 0 < second
    second_positive = gcd_positive b left second some_left (searched_is_gcd b left)

    coprime : IsGcd (a / first * b) left second
    coprime = coprime_factor (a / first) b left second (quotients_are_coprime a den first first_positive (searched_is_gcd a den)) (searched_is_gcd b left)

    whole : a / first * b * first ≡ a * b
    whole = exchanged (a / first) b first ∙ ap (λ x. x * b) (div-mul_cancel first (searched_is_gcd a den).0)
      where
        exchanged : (x y z : ℕ) → x * y * z ≡ x * z * y
        exchanged x y z = mul_assoc x y z ∙ ap (λ n. x * n) (mul_comm y z) ∙ sym (mul_assoc x z y)

    divisor : gcd_of (a * b) den ≡ second * first
    divisor = sym (gcd_of_is (a * b) den (second * first) (rw (whole, div-mul_cancel first (searched_is_gcd a den).1) at (gcd_scaled (a / first * b) left second first coprime)))

    -- the numerator
    pub product_num : a * b / gcd_of (a * b) den ≡ a / first * (b / second)
    product_num = ap (λ n. a * b / n) divisor ∙ ap (λ n. n / (second * first)) (sym split) ∙ mul-div_cancel (a / first * (b / second)) (mul-le 1 1 second first second_positive first_positive)
      where
        regrouped : (x y z w : ℕ) → x * y * (z * w) ≡ x * (y * z) * w
        regrouped x y z w = mul_assoc x y (z * w) ∙ ap (λ n. x * n) (sym (mul_assoc y z w)) ∙ sym (mul_assoc x (y * z) w)

        split : a / first * (b / second) * (second * first) ≡ a * b
        split = regrouped (a / first) (b / second) second first ∙ ap (λ n. a / first * n * first) (div-mul_cancel second (searched_is_gcd b left).0) ∙ whole

    -- the denominator
    pub product_den : den / gcd_of (a * b) den ≡ left / second
    product_den = ap (λ n. den / n) (divisor ∙ mul_comm second first) ∙ sym (div-div-eq-div-mul den first second)

    lowest_terms : IsReduced (reduced (a * b) den)
    lowest_terms = record {
      some_den = quotient_positive den (gcd_of (a * b) den) some (searched_is_gcd (a * b) den).1;
      lowest = quotients_are_coprime (a * b) den (gcd_of (a * b) den) (gcd_positive (a * b) den (gcd_of (a * b) den) some (searched_is_gcd (a * b) den)) (searched_is_gcd (a * b) den);
    }

    -- both parts
    pub product_parts : (x y : ℕ) → x ≡ a / first * (b / second) → y ≡ left / second → record { num = x; den = y } ≡ reduced (a * b) den
    product_parts x y e f = rw (e ∙ sym product_num, f ∙ sym product_den) refl

    pub product_reduced : (x y : ℕ) → x ≡ a / first * (b / second) → y ≡ left / second → IsReduced (record { num = x; den = y })
    product_reduced x y e f = subst IsReduced (sym (product_parts x y e f)) lowest_terms
