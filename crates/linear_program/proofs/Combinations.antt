-- Combinations that fit, and their parts.
use Rattle.std.proofs.Common.{◌≡◌, ℕ, zero, suc, ◌+◌, ◌*◌, ◌<◌, ◌≤◌, ◌^◌, ℤ, pos, negsuc, nat_abs, ◌-ℤ◌, ◌*ℤ◌, true, false, cond, nat_lt, Option, Some, None, IsSome, option_and_then, arith, refl, sym}
use Rattle.std.proofs.Math.Nat.{mul-le-mul_left}
use Rattle.std.proofs.lemmas.Int.{ints}
use Rattle.std.proofs.lemmas.Bool.{ltb-true, lt-ltb}
use Rattle.linear_program.specs.Sizes.{fitting, fitting_combination}

fitting_is : (z y : ℤ) → fitting z ≡ Some y → (z ≡ y) × (nat_abs z < 2 ^ 127)
fitting_is z y h =
    elim (nat_lt (nat_abs z) (2 ^ 127)) as (λ b. nat_lt (nat_abs z) (2 ^ 127) ≡ b → cond b (Some z) None ≡ Some y → (z ≡ y) × (nat_abs z < 2 ^ 127)) [
      | true ↦ λ e k. (cc, ltb-true _ _ e)
      | false ↦ λ e k. cc
    ] refl h

-- a combination that fits is the combination
pub combination_is : (p a q b y : ℤ) → fitting_combination p a q b ≡ Some y → (y ≡ p *ℤ a -ℤ q *ℤ b) × (nat_abs y < 2 ^ 127)
combination_is p a q b y h = go (fitting (p *ℤ a)) refl (fitting (q *ℤ b)) refl h
  where
    go : (o : Option ℤ) → fitting (p *ℤ a) ≡ o → (r : Option ℤ) → fitting (q *ℤ b) ≡ r →
        option_and_then (λ left. option_and_then (λ right. fitting (left -ℤ right)) r) o ≡ Some y → (y ≡ p *ℤ a -ℤ q *ℤ b) × (nat_abs y < 2 ^ 127)
    go None e r f h = cc
    go (Some x) e None f h = cc
    go (Some x) e (Some z) f h =
        let first = fitting_is (p *ℤ a) x e in
        let second = fitting_is (q *ℤ b) z f in
        let whole = fitting_is (x -ℤ z) y h in
        (rw (first.0, second.0) (sym whole.0), rw whole.0 at whole.1)

-- a combination fits where both products and the difference do
pub combination_fits : (p a q b : ℤ) → nat_abs (p *ℤ a) < 2 ^ 127 → nat_abs (q *ℤ b) < 2 ^ 127 → nat_abs (p *ℤ a -ℤ q *ℤ b) < 2 ^ 127 → fitting_combination p a q b ≡ Some (p *ℤ a -ℤ q *ℤ b)
combination_fits p a q b left right whole = rw (lt-ltb _ _ left, lt-ltb _ _ right, lt-ltb _ _ whole) refl

-- the sizes of a combination that fits
pub combination_parts : (p a q b : ℤ) → IsSome (fitting_combination p a q b) → (nat_abs (p *ℤ a) < 2 ^ 127) × (nat_abs (q *ℤ b) < 2 ^ 127) × (nat_abs (p *ℤ a -ℤ q *ℤ b) < 2 ^ 127)
combination_parts p a q b h = go (fitting (p *ℤ a)) refl (fitting (q *ℤ b)) refl h
  where
    last : (x y : ℤ) → IsSome (fitting (x -ℤ y)) → nat_abs (x -ℤ y) < 2 ^ 127
    last x y h =
        elim (nat_lt (nat_abs (x -ℤ y)) (2 ^ 127)) as (λ b. nat_lt (nat_abs (x -ℤ y)) (2 ^ 127) ≡ b → IsSome (cond b (Some (x -ℤ y)) None) → nat_abs (x -ℤ y) < 2 ^ 127) [
          | true ↦ λ e k. ltb-true _ _ e
          | false ↦ λ e k. cc
        ] refl h

    go : (o : Option ℤ) → fitting (p *ℤ a) ≡ o → (r : Option ℤ) → fitting (q *ℤ b) ≡ r →
        IsSome (option_and_then (λ left. option_and_then (λ right. fitting (left -ℤ right)) r) o) → (nat_abs (p *ℤ a) < 2 ^ 127) × (nat_abs (q *ℤ b) < 2 ^ 127) × (nat_abs (p *ℤ a -ℤ q *ℤ b) < 2 ^ 127)
    go None e r f h = cc
    go (Some x) e None f h = cc
    go (Some x) e (Some z) f h =
        let first = fitting_is (p *ℤ a) x e in
        let second = fitting_is (q *ℤ b) z f in
        (first.1, second.1, rw (first.0, second.0) (last x z h))

-- the size of a product
pub size_times : (a b : ℤ) → nat_abs (a *ℤ b) ≡ nat_abs a * nat_abs b
size_times (pos m) (pos n) = refl
size_times (pos zero) (negsuc n) = omega (arith, ints)
size_times (pos (suc m)) (negsuc n) = omega (arith, ints)
size_times (negsuc m) (pos zero) = omega (arith, ints)
size_times (negsuc m) (pos (suc n)) = omega (arith, ints)
size_times (negsuc m) (negsuc n) = omega (arith, ints)

-- the size of a difference
pub size_difference : (a b : ℤ) → nat_abs (a -ℤ b) ≤ nat_abs a + nat_abs b
size_difference a b = omega (arith, ints)

-- a product of lesser sizes is less
product_below : (p a s m : ℕ) → p * s < m → a ≤ s → p * a < m
product_below p a s m h l = let k : p * a ≤ p * s = mul-le-mul_left p l in omega arith

-- where the multipliers times the greatest sizes of two rows stay below half of what fits, every combination fits
pub small_combination_fits : (p a q b : ℤ) (s t : ℕ) → nat_abs p * s < 2 ^ 126 → nat_abs q * t < 2 ^ 126 → nat_abs a ≤ s → nat_abs b ≤ t → IsSome (fitting_combination p a q b)
small_combination_fits p a q b s t left right a_small b_small =
    let first : nat_abs (p *ℤ a) < 2 ^ 126 = rw (size_times p a) (product_below (nat_abs p) (nat_abs a) s (2 ^ 126) left a_small) in
    let second : nat_abs (q *ℤ b) < 2 ^ 126 = rw (size_times q b) (product_below (nat_abs q) (nat_abs b) t (2 ^ 126) right b_small) in
    let whole = size_difference (p *ℤ a) (q *ℤ b) in
    rw (combination_fits p a q b (omega (arith, first)) (omega (arith, second)) (omega (arith, first, second, whole))) refl
