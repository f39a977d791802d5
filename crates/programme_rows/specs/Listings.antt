-- Lists and totals over the numbers below a bound.
use Rattle.std.specs.Prelude.{ℕ, zero, suc, ◌+◌, Bool, cond, List, [], ◌∷◌, ◌++◌}

-- the values of a function at the numbers below n that pass, in order
abbrev pub each_where : {A : Type 0} → (ℕ → Bool) → (ℕ → A) → ℕ → List A
each_where passes f zero = []
each_where passes f (suc n) = each_where passes f n ++ cond (passes n) (f n ∷ []) []

-- the sum of a number over the numbers below n
abbrev pub total_below : ℕ → (ℕ → ℕ) → ℕ
total_below zero f = 0
total_below (suc n) f = total_below n f + f n
