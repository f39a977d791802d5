-- Sums of sums, in either order.
use Rattle.std.proofs.Common.{◌≡◌, ℕ, List, [], ◌∷◌, All, ℤ, pos, ◌+ℤ◌, refl, sym, ap, ◌∙◌}
use Rattle.std.proofs.lemmas.List.Elements.{All-head, All-tail}
use Rattle.linear_program.specs.Sums.{sum_below}
use Rattle.linear_program.proofs.Sums.{sum_added, zero_sum}
use Rattle.programme_rows.proofs.Listings.{sum_over}

-- functions that agree on a list have one sum over it
pub sum_over_same : {A : Type 0} (f g : A → ℤ) (xs : List A) → All (λ x. f x ≡ g x) xs → sum_over f xs ≡ sum_over g xs
sum_over_same f g [] same = refl
sum_over_same f g (x ∷ xs) same =
    both (All-head (λ x. f x ≡ g x) x xs same) (sum_over_same f g xs (All-tail (λ x. f x ≡ g x) x xs same))
  where
    both : {a b c d : ℤ} → a ≡ b → c ≡ d → a +ℤ c ≡ b +ℤ d
    both e k = rw (e, k) refl

-- numbers first or list first
pub sum_exchange : {A : Type 0} (n : ℕ) (f : ℕ → A → ℤ) (xs : List A) → sum_below n (λ i. sum_over (f i) xs) ≡ sum_over (λ x. sum_below n (λ i. f i x)) xs
sum_exchange n f [] = zero_sum n (λ i. pos 0) (λ i l. refl)
sum_exchange n f (x ∷ xs) =
    sym (sum_added n (λ i. f i x) (λ i. sum_over (f i) xs)) ∙ ap (λ z. sum_below n (λ i. f i x) +ℤ z) (sum_exchange n f xs)
