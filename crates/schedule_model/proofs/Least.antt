-- The least of some numbers, found one after another.
use Rattle.std.proofs.Common.{◌≡◌, ℕ, ◌<◌, min, List, [], ◌∷◌, length, slice_index, refl, ap, ◌∙◌, arith}
use Rattle.schedule_model.specs.declared.tally.Tally.{Tally}
use Rattle.schedule_model.specs.Tallies.{place_of, deliveries_of}
use Rattle.schedule_model.specs.Validity.{least}

-- the least of a number and some more
abbrev pub least_with : ℕ → List ℕ → ℕ
least_with n [] = n
least_with n (m ∷ ms) = least_with (min n m) ms

min_joins : (a b c : ℕ) → min (min a b) c ≡ min a (min b c)
min_joins a b c = grind arith

pulled : (n m : ℕ) (ms : List ℕ) → least (min n m ∷ ms) ≡ min n (least (m ∷ ms))
pulled n m [] = refl
pulled n m (k ∷ ks) = min_joins n m (least (k ∷ ks))

is_least : (n : ℕ) (ms : List ℕ) → least_with n ms ≡ least (n ∷ ms)
is_least n [] = refl
is_least n (m ∷ ms) = is_least (min n m) ms ∙ pulled n m ms

min_itself : (n : ℕ) → min n n ≡ n
min_itself n = grind arith

least_from_first : (n : ℕ) (ms : List ℕ) → least_with n (n ∷ ms) ≡ least (n ∷ ms)
least_from_first n ms = ap (λ k. least_with k ms) (min_itself n) ∙ is_least n ms

pub least_found : (tally : Tally) (targets : List ℕ) → 0 < length targets →
    least_with (slice_index tally.received (place_of 0 (slice_index targets 0))) (deliveries_of tally 0 targets) ≡ least (deliveries_of tally 0 targets)
least_found tally [] some = absurd (omega arith)
least_found tally (target ∷ targets) some = least_from_first (slice_index tally.received (place_of 0 target)) (deliveries_of tally 1 targets)
