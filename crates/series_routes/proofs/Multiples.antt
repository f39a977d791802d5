-- Least common multiples of lists.
use Rattle.std.proofs.Common.{◌≡◌, ℕ, zero, suc, ◌*◌, ◌/◌, ◌%◌, ◌^◌, ◌≤◌, nat_le, Bool, true, false, cond, List, [], ◌∷◌, ◌++◌, map, All, Result, Ok, Err, refl, sym, ap, ◌∙◌, subst, arith, inl, inr}
use Prim.Native.Nat.{◌∣◌}
use Rattle.std.proofs.Math.Nat.{div-le_self}
use Rattle.std.proofs.lemmas.Bool.{cases_lt}
use Rattle.std.proofs.lemmas.Nat.Gcd.{dvd_of_mod-eq-zero, mod-eq-zero_of_dvd, dvd_trans, dvd_refl}
use Rattle.std.proofs.lemmas.List.Elements.{All-head, All-tail, All-cons, All-nil, All-weaker}
use Rattle.ratio_core.specs.Fraction.{Fraction, gcd_of}
use Rattle.ratio_core.specs.Multiples.{IsLeastCommonMultiple, lcm_of}
use Rattle.platform_file.specs.Ticks.{TimedView}
use Rattle.schedule_model.specs.declared.schedule.Series.{Series}
use Rattle.programme_rows.specs.Listings.{each_where}
use Rattle.series_flows.proofs.Terms.{true_or_false}
use Rattle.series_routes.specs.declared.numbers.PeriodStep.{PeriodStep}
use Rattle.series_routes.specs.declared.numbers.TableFault.{TableFault}
use Rattle.series_routes.specs.declared.numbers.TableFault.TheVariants.{Period}
use Rattle.series_routes.specs.declared.numbers.PeriodStep.TheVariants.{Denominators, Costs}
use Rattle.series_routes.specs.Numbers.{multiple_of, common_denominator, costs_in_use, common_cost, product_of, and_then, scale_of}

ok_same : (r : Result ℕ TableFault) (a b : ℕ) → r ≡ Ok a → r ≡ Ok b → a ≡ b
ok_same r a b e f = cc

-- a multiple that isn't 0 is one of numbers that aren't
product_some : (a b : ℕ) → 1 ≤ a * b → (1 ≤ a) × (1 ≤ b)
product_some zero b h = absurd (omega arith)
product_some (suc a) zero h = absurd (omega arith)
product_some (suc a) (suc b) h = (omega arith, omega arith)

share_some : (left right : ℕ) → 1 ≤ lcm_of left right → (1 ≤ left) × (1 ≤ right)
share_some left right h =
    let both = product_some (left / gcd_of left right) right h in
    (let less = div-le_self left (gcd_of left right) in omega (arith, less, both.0), both.1)

pub some_factors : (step : PeriodStep) (left : ℕ) (numbers : List ℕ) (multiple : ℕ) → multiple_of step left numbers ≡ Ok multiple → 1 ≤ multiple → (1 ≤ left) × All (λ n. 1 ≤ n) numbers
some_factors step left [] multiple e some = (subst (λ n. 1 ≤ n) (sym (ok_same (Ok left) left multiple refl e)) some, All-nil (λ n. 1 ≤ n))
some_factors step left (right ∷ numbers) multiple e some =
    elim (true_or_false (nat_le (lcm_of left right) (2 ^ 100))) [
      | inl fits ↦
          let rest = some_factors step (lcm_of left right) numbers multiple (rw fits at e) some in
          let both = share_some left right rest.0 in
          (both.0, All-cons (λ n. 1 ≤ n) right numbers both.1 rest.1)
      | inr passes ↦ let bad : Err (Period step left right) ≡ Ok multiple = rw passes at e in absurd cc
    ]

-- every number is a divisor of their multiple
pub divides_multiple : ((a b : ℕ) → 1 ≤ a → 1 ≤ b → IsLeastCommonMultiple a b (lcm_of a b)) → (step : PeriodStep) (left : ℕ) (numbers : List ℕ) (multiple : ℕ) → 1 ≤ left → All (λ n. 1 ≤ n) numbers →
    multiple_of step left numbers ≡ Ok multiple → (left ∣ multiple) × All (λ n. n ∣ multiple) numbers
divides_multiple law step left [] multiple some each e = (subst (λ n. left ∣ n) (ok_same (Ok left) left multiple refl e) (dvd_refl left), All-nil (λ n. n ∣ multiple))
divides_multiple law step left (right ∷ numbers) multiple some each e =
    elim (true_or_false (nat_le (lcm_of left right) (2 ^ 100))) [
      | inl fits ↦
          let one = All-head (λ n. 1 ≤ n) right numbers each in
          let least = law left right some one in
          let rest = divides_multiple law step (lcm_of left right) numbers multiple least.some (All-tail (λ n. 1 ≤ n) right numbers each) (rw fits at e) in
          (dvd_trans left (dvd_of_mod-eq-zero left least.of_first) rest.0, All-cons (λ n. n ∣ multiple) right numbers (dvd_trans right (dvd_of_mod-eq-zero right least.of_second) rest.0) rest.1)
      | inr passes ↦ let bad : Err (Period step left right) ≡ Ok multiple = rw passes at e in absurd cc
    ]

pub each_mapped : {A B : Type 0} (P : B → Type 0) (f : A → B) (xs : List A) → All P (map f xs) → All (λ x. P (f x)) xs
each_mapped P f [] all = All-nil (λ x. P (f x))
each_mapped P f (x ∷ xs) all = All-cons (λ y. P (f y)) x xs (All-head P (f x) (map f xs) all) (each_mapped P f xs (All-tail P (f x) (map f xs) all))

-- each denominator is a divisor of the common one
pub denominators_divide : ((a b : ℕ) → 1 ≤ a → 1 ≤ b → IsLeastCommonMultiple a b (lcm_of a b)) → (values : List Fraction) (ticks : ℕ) → common_denominator values ≡ Ok ticks → 1 ≤ ticks → All (λ (value : Fraction). value.den ∣ ticks) values
denominators_divide law values ticks e some =
    each_mapped (λ n. n ∣ ticks) (λ (value : Fraction). value.den) values
    (divides_multiple law Denominators 1 (map (λ (value : Fraction). value.den) values) ticks (omega arith) (some_factors Denominators 1 (map (λ (value : Fraction). value.den) values) ticks e some).1 e).1

pub remainders : (values : List Fraction) (ticks : ℕ) → All (λ (value : Fraction). value.den ∣ ticks) values → All (λ (value : Fraction). ticks % value.den ≡ 0) values
remainders values ticks whole = All-weaker (λ (value : Fraction). value.den ∣ ticks) (λ (value : Fraction). ticks % value.den ≡ 0) (λ (value : Fraction) divides. mod-eq-zero_of_dvd value.den divides) values whole

-- and each cost in use of the common cost
pub costs_divide : ((a b : ℕ) → 1 ≤ a → 1 ≤ b → IsLeastCommonMultiple a b (lcm_of a b)) → (t : TimedView) (series : Series) (values : List Fraction) (times : ℕ) → common_cost t series values ≡ Ok times → 1 ≤ times →
    All (λ n. n ∣ times) (costs_in_use t series values)
costs_divide law t series values times e some =
    (divides_multiple law Costs 1 (costs_in_use t series values) times (omega arith) (some_factors Costs 1 (costs_in_use t series values) times e some).1 e).1

-- ---- step by step

pub fault_in_costs : (t : TimedView) (series : Series) (values : List Fraction) (ticks : ℕ) (fault : TableFault) → common_denominator values ≡ Ok ticks → common_cost t series values ≡ Err fault → scale_of t series values ≡ Err fault
fault_in_costs t series values ticks fault e f = rw (e, f) refl

pub fault_in_product : (t : TimedView) (series : Series) (values : List Fraction) (ticks times : ℕ) (fault : TableFault) → common_denominator values ≡ Ok ticks → common_cost t series values ≡ Ok times →
    product_of ticks times ≡ Err fault → scale_of t series values ≡ Err fault
fault_in_product t series values ticks times fault e f g = rw (e, f, g) refl

pub all_steps : (t : TimedView) (series : Series) (values : List Fraction) (ticks times period : ℕ) → common_denominator values ≡ Ok ticks → common_cost t series values ≡ Ok times →
    product_of ticks times ≡ Ok period → scale_of t series values ≡ Ok (record { ticks = ticks; times = times })
all_steps t series values ticks times period e f g = rw (e, f, g) refl

-- ---- number by number

-- the multiple of two lists goes on from that of the first
multiple_append : (step : PeriodStep) (left : ℕ) (xs ys : List ℕ) → multiple_of step left (xs ++ ys) ≡ and_then (multiple_of step left xs) (λ m. multiple_of step m ys)
multiple_append step left [] ys = refl
multiple_append step left (x ∷ xs) ys = by_fit (nat_le (lcm_of left x) (2 ^ 100)) (multiple_append step (lcm_of left x) xs ys)
  where
    by_fit : (b : Bool) → multiple_of step (lcm_of left x) (xs ++ ys) ≡ and_then (multiple_of step (lcm_of left x) xs) (λ m. multiple_of step m ys) → cond b (multiple_of step (lcm_of left x) (xs ++ ys)) (Err (Period step left x)) ≡ and_then (cond b (multiple_of step (lcm_of left x) xs) (Err (Period step left x))) (λ m. multiple_of step m ys)
    by_fit true rest = rest
    by_fit false rest = refl

module _ (step : PeriodStep) (passes : ℕ → Bool) (f : ℕ → ℕ) where
  abbrev pub so_far : ℕ → Result ℕ TableFault
  so_far n = multiple_of step 1 (each_where passes f n)

  one_more : (n : ℕ) (r : Result ℕ TableFault) → so_far n ≡ r → so_far (suc n) ≡ and_then r (λ m. multiple_of step m (cond (passes n) (f n ∷ []) []))
  one_more n r e = multiple_append step 1 (each_where passes f n) (cond (passes n) (f n ∷ []) []) ∙ ap (λ s. and_then s (λ m. multiple_of step m (cond (passes n) (f n ∷ []) []))) e

  -- with a number that passes
  pub grown : (n common : ℕ) (r : Result ℕ TableFault) → so_far n ≡ Ok common → passes n ≡ true → r ≡ multiple_of step common (f n ∷ []) → so_far (suc n) ≡ r
  grown n common r e there is = one_more n (Ok common) e ∙ ap (λ b. multiple_of step common (cond b (f n ∷ []) [])) there ∙ sym is

  -- with one that doesn't
  pub skipped : (n common : ℕ) → so_far n ≡ Ok common → passes n ≡ false → so_far (suc n) ≡ Ok common
  skipped n common e absent = one_more n (Ok common) e ∙ ap (λ b. multiple_of step common (cond b (f n ∷ []) [])) absent

  -- a fault stays
  pub ended : (fault : TableFault) (k n : ℕ) → k ≤ n → so_far k ≡ Err fault → so_far n ≡ Err fault
  ended fault k zero l e = let is : k ≡ 0 = omega (arith, l) in subst (λ i. so_far i ≡ Err fault) is e
  ended fault k (suc n) l e =
      elim (cases_lt n k) [
        | inl past ↦ let is : k ≡ suc n = omega (arith, l, past) in subst (λ i. so_far i ≡ Err fault) is e
        | inr before ↦ one_more n (Err fault) (ended fault k n before e)
      ]
