-- The least common multiple by the greatest common divisor.
use Rattle.std.proofs.Common.{◌≡◌, ℕ, zero, suc, ◌+◌, ◌*◌, ◌-◌, ◌/◌, ◌<◌, ◌≤◌, sym, ◌∙◌, ap, subst, arith, inl, inr}
use Rattle.std.specs.Int.{IsGcd}
use Prim.Native.Nat.{◌∣◌}
use Rattle.std.proofs.lemmas.Bool.{cases_lt}
use Rattle.std.proofs.lemmas.Nat.{mul-le}
use Rattle.std.proofs.lemmas.Nat.Gcd.{IsGcd-from_zero, IsGcd-swap, IsGcd-from_sub, same_from_IsGcd, dvd_of_mod-eq-zero, mod-eq-zero_of_dvd, le_of_dvd}
use Rattle.std.proofs.Math.Nat.{div-mul_cancel, mul-dvd-mul_right, dvd_of_mul-dvd-mul_right, dvd-mul_left, dvd-mul_right, zero-mul, mul_comm, mul_right_comm, mul_assoc, lt-div-mul-add, div-mul-le_self}
use Rattle.ratio_core.specs.Multiples.{IsLeastCommonMultiple, lcm_of}
use Rattle.ratio_core.specs.Fraction.{gcd_of}
use Rattle.ratio_core.proofs.GcdLemmas.{gcd_positive, quotient_positive, gcd_of_is}

-- a common divisor that stays the greatest when both numbers are taken n times
record Scaled (a b n : ℕ) : Type 0 where
  divisor : ℕ
  plain : IsGcd a b divisor
  scaled : IsGcd (a * n) (b * n) (divisor * n)

done : (a b n : ℕ) → b ≡ 0 → Scaled a b n
done a b n none = record {
  divisor = a;
  plain = IsGcd-from_zero a b none;
  scaled = IsGcd-from_zero (a * n) (b * n) (ap (λ x. x * n) none ∙ zero-mul n);
}

turned : (a b n : ℕ) → Scaled b a n → Scaled a b n
turned a b n s = record {
  divisor = s.divisor;
  plain = IsGcd-swap b a s.divisor s.plain;
  scaled = IsGcd-swap (b * n) (a * n) (s.divisor * n) s.scaled;
}

step : (a b n : ℕ) → b ≤ a → Scaled (a - b) b n → Scaled a b n
step a b n more s = record {
  divisor = s.divisor;
  plain = IsGcd-from_sub a b s.divisor more s.plain;
  scaled = IsGcd-from_sub (a * n) (b * n) (s.divisor * n) (omega (arith, split)) (subst (λ x. IsGcd x (b * n) (s.divisor * n)) difference s.scaled);
}
  where
    whole : a - b + b ≡ a
    whole = omega arith

    split : a * n ≡ (a - b) * n + b * n
    split = ap (λ x. x * n) (sym whole) ∙ omega arith

    difference : (a - b) * n ≡ a * n - b * n
    difference = omega (arith, split)

-- by differences, as Euclid did
scaling : (fuel a b n : ℕ) → a + b ≤ fuel → Scaled a b n
scaling zero a b n h = done a b n (omega arith)
scaling (suc fuel) a b n h =
    elim (cases_lt 0 b) [
      | inr none ↦ done a b n (omega arith)
      | inl some ↦ elim (cases_lt a b) [
        | inr more ↦ step a b n more (scaling fuel (a - b) b n (omega arith))
        | inl less ↦ elim (cases_lt 0 a) [
          | inr none ↦ turned a b n (done b a n (omega arith))
          | inl some_first ↦ turned a b n (step b a n (omega arith) (scaling fuel (b - a) a n (omega arith)))
        ]
      ]
    ]

pub gcd_scaled : (a b g n : ℕ) → IsGcd a b g → IsGcd (a * n) (b * n) (g * n)
gcd_scaled a b g n h =
    let s = scaling (a + b) a b n (omega arith) in
    subst (λ d. IsGcd (a * n) (b * n) (d * n)) (same_from_IsGcd a b s.divisor g s.plain h) s.scaled

exchanged : (x y g a b : ℕ) → x * g ≡ a → y * g ≡ b → a * y ≡ x * b
exchanged x y g a b e f = ap (λ z. z * y) (sym e) ∙ mul_assoc x g y ∙ ap (λ z. x * z) (mul_comm g y) ∙ ap (λ z. x * z) f

module _ (a b g : ℕ) (first : 1 ≤ a) (second : 1 ≤ b) (h : IsGcd a b g) where
  positive : 0 < g
  positive = gcd_positive a b g second h

  whole : a / g * b * g ≡ a * b
  whole = mul_right_comm (a / g) b g ∙ ap (λ x. x * b) (div-mul_cancel g h.0)

  divides : (m : ℕ) → a ∣ m → b ∣ m → a / g * b ∣ m
  divides m of_first of_second =
      let left : a * b ∣ a * m = subst (λ x. a * b ∣ x) (mul_comm m a) (subst (λ x. x ∣ m * a) (mul_comm b a) (mul-dvd-mul_right b of_second a)) in
      let right : a * b ∣ b * m = subst (λ x. a * b ∣ x) (mul_comm m b) (mul-dvd-mul_right a of_first b) in
      let both : a * b ∣ m * g = subst (λ x. a * b ∣ x) (mul_comm g m) ((gcd_scaled a b g m h).2 (a * b) left right) in
      dvd_of_mul-dvd-mul_right (a / g * b) positive (subst (λ x. x ∣ m * g) (sym whole) both)

  pub least_multiple : IsLeastCommonMultiple a b (a / g * b)
  least_multiple = record {
    some = some;
    of_first = mod-eq-zero_of_dvd a (subst (λ x. a ∣ x) of_first (dvd-mul_right a (b / g)));
    of_second = mod-eq-zero_of_dvd b (dvd-mul_left b (a / g));
    least = λ m some of_first of_second. le_of_dvd (omega arith) (divides m (dvd_of_mod-eq-zero a of_first) (dvd_of_mod-eq-zero b of_second));
    divides = λ m of_first of_second. mod-eq-zero_of_dvd (a / g * b) (divides m (dvd_of_mod-eq-zero a of_first) (dvd_of_mod-eq-zero b of_second));
  }
    where
      some : 1 ≤ a / g * b
      some = mul-le 1 1 (a / g) b (quotient_positive a g first h.0) second

      of_first : a * (b / g) ≡ a / g * b
      of_first = exchanged (a / g) (b / g) g a b (div-mul_cancel g h.0) (div-mul_cancel g h.1)

-- where a share exceeds the bound's quotient, the product exceeds the bound
pub passes : (share b max : ℕ) → 1 ≤ b → max / b < share → max < share * b
passes share b max some h =
    let bound : max < max / b * b + b = lt-div-mul-add some in
    let more : (max / b + 1) * b ≤ share * b = mul-le (max / b + 1) b share b (omega arith) (omega arith) in
    let split : (max / b + 1) * b ≡ max / b * b + b = omega arith in
    omega (arith, bound, more, split)

-- where a share doesn't, neither does the product
pub stays : (share b max : ℕ) → share ≤ max / b → share * b ≤ max
stays share b max h =
    let bound : max / b * b ≤ max = div-mul-le_self max b in
    let less : share * b ≤ max / b * b = mul-le share b (max / b) b h (omega arith) in
    omega (arith, bound, less)

-- some greatest common divisor exists, and the searched one is it
pub searched_is_gcd : (a b : ℕ) → IsGcd a b (gcd_of a b)
searched_is_gcd a b = let s = scaling (a + b) a b 1 (omega arith) in subst (IsGcd a b) (gcd_of_is a b s.divisor s.plain) s.plain

-- the multiple by the searched divisor
pub searched_multiple : (a b : ℕ) → 1 ≤ a → 1 ≤ b → IsLeastCommonMultiple a b (lcm_of a b)
searched_multiple a b first second = least_multiple a b (gcd_of a b) first second (searched_is_gcd a b)
