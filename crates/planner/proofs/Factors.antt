-- Greatest common divisors of lists.
use Rattle.std.proofs.Common.{◌≡◌, ℕ, suc, ◌+◌, ◌<◌, List, [], ◌∷◌, ◌++◌, length, drop, get_or, refl, sym, ap, ◌∙◌, arith}
use Rattle.std.proofs.Math.Seq.{drop-cons}
use Rattle.ratio_core.specs.Fraction.{gcd_of}
use Rattle.planner.specs.Scales.{factor_with}

-- the divisor of two lists one after the other
pub factor_append : (common : ℕ) (xs ys : List ℕ) → factor_with common (xs ++ ys) ≡ factor_with (factor_with common xs) ys
factor_append common [] ys = refl
factor_append common (x ∷ xs) ys = factor_append (gcd_of common x) xs ys

-- what is left of a list, by its next item
pub next_of : {A : Type 0} (xs : List A) (k : ℕ) (x : A) → k < length xs → x ≡ get_or xs k x → drop k xs ≡ x ∷ drop (k + 1) xs
next_of xs k x l is = let next : k + 1 ≡ suc k = omega arith in rw next (drop-cons xs k x l ∙ ap (λ first. first ∷ drop (suc k) xs) (sym is))

pub next_at : {A : Type 0} (xs : List A) (k : ℕ) (d : A) → k < length xs → drop k xs ≡ get_or xs k d ∷ drop (k + 1) xs
next_at xs k d l = let next : k + 1 ≡ suc k = omega arith in rw next (drop-cons xs k d l)
