-- Lists of the first terms of a sequence.
use Rattle.std.proofs.Common.{◌≡◌, ℕ, zero, suc, ◌+◌, ◌<◌, ◌≤◌, ◌++◌, Bool, true, false, ◌⊎◌, [], ◌∷◌, length, get_or, refl, ap, ◌∙◌, arith, inl, inr}
use Rattle.std.proofs.lemmas.Bool.{cases_lt}
use Rattle.std.proofs.lemmas.List.{length-append, get_or_append_left}
use Rattle.std.proofs.Math.Seq.{get_or-append_seam}
use Rattle.exact_simplex.specs.Optima.{first_terms}

-- equal terms give equal lists
pub same_terms : {A : Type 0} (f g : ℕ → A) (n : ℕ) → ((k : ℕ) → k < n → f k ≡ g k) → first_terms f n ≡ first_terms g n
same_terms f g zero h = refl
same_terms f g (suc n) h = rw (same_terms f g n (λ k l. h k (omega arith)), h n (omega arith)) refl

pub length_terms : {A : Type 0} (f : ℕ → A) (n : ℕ) → length (first_terms f n) ≡ n
length_terms f zero = refl
length_terms f (suc n) = length-append (first_terms f n) (f n ∷ []) ∙ one (length (first_terms f n)) (length_terms f n)
  where
    one : (a : ℕ) → a ≡ n → a + 1 ≡ suc n
    one a e = omega arith

-- each term is at its place
pub term_there : {A : Type 0} (f : ℕ → A) (d : A) (n k : ℕ) → k < n → get_or (first_terms f n) k d ≡ f k
term_there f d zero k l = absurd (omega arith)
term_there f d (suc n) k l =
    elim (cases_lt k n) [
      | inl before ↦ get_or_append_left (first_terms f n) (f n ∷ []) d k (rw (length_terms f n) before) ∙ term_there f d n k before
      | inr from ↦
          let is : k ≡ length (first_terms f n) = last (length_terms f n) from in
          let same : n ≡ k = omega (arith, from, l) in
          ap (λ i. get_or (first_terms f n ++ f n ∷ []) i d) is ∙ get_or-append_seam (first_terms f n) (f n) [] d ∙ ap f same
    ]
  where
    last : length (first_terms f n) ≡ n → n ≤ k → k ≡ length (first_terms f n)
    last e h = omega arith

-- a test passes or doesn't
pub true_or_false : (b : Bool) → (b ≡ true) ⊎ (b ≡ false)
true_or_false true = inl refl
true_or_false false = inr refl
