-- Sums of numbers that are all divided by one.
use Rattle.std.proofs.Common.{◌≡◌, ℕ, ◌+◌, ◌*◌, ◌/◌, List, [], ◌∷◌, All, sum_by, sym, ap, ◌∙◌, arith}
use Prim.Native.Nat.{◌∣◌}
use Rattle.std.proofs.Math.Nat.{div-mul_cancel, div-div-eq-div-mul, mul_comm}
use Rattle.std.proofs.lemmas.List.Elements.{All-head, All-tail}
use Rattle.std.proofs.lemmas.List.Sums.{sum_by-cons}

-- what is divided comes to the sum again
pub divided_sum : {X : Type 0} (f : X → ℕ) (g : ℕ) (xs : List X) → All (λ x. g ∣ f x) xs → sum_by (λ x. f x / g) xs * g ≡ sum_by f xs
divided_sum f g [] h = omega arith
divided_sum f g (x ∷ xs) h =
    both _ _ _ _ _ _ (sum_by-cons (λ y. f y / g) x xs) (sum_by-cons f x xs) (div-mul_cancel g (All-head (λ y. g ∣ f y) x xs h)) (divided_sum f g xs (All-tail (λ y. g ∣ f y) x xs h))
  where
    both : (a b c d v w : ℕ) → a ≡ v + b → c ≡ w + d → v * g ≡ w → b * g ≡ d → a * g ≡ c
    both a b c d v w e f h k = let split : a * g ≡ (v + b) * g = ap (λ n. n * g) e in omega (arith, split, f, h, k)

-- two divisions change places
pub exchanged : (n a b : ℕ) → n / a / b ≡ n / b / a
exchanged n a b = div-div-eq-div-mul n a b ∙ ap (λ m. n / m) (mul_comm a b) ∙ sym (div-div-eq-div-mul n b a)
