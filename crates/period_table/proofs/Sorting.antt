-- The list put into order: the same operations, by start.
use Rattle.std.proofs.Common.{◌≡◌, ℕ, zero, suc, ◌≤◌, true, false, List, [], ◌∷◌, map, arith, inl, inr}
use Rattle.std.specs.declared.cmp.Ordering.{Ordering}
use Rattle.std.specs.Ordering.{nat_cmp, is_le, ordering_then}
use Rattle.std.specs.List.Sorted.{IsPermutation, IsNonDecreasingBy}
use Rattle.std.proofs.lemmas.Bool.Decides.{nat_tests}
use Rattle.std.proofs.lemmas.List.Sorted.{IsPermutation-refl, IsPermutation-cons, IsPermutation-trans, IsPermutation-sym, IsPermutation-middle}
use Rattle.schedule_model.specs.declared.schedule.Op.{Op}
use Rattle.schedule_model.specs.declared.schedule.Op.TheVariants.{Send, Compute}
use Rattle.schedule_model.specs.Operations.{start_of}
use Rattle.period_table.specs.TableSchedules.{Placed, order_of, put_in_order, in_order}
use Rattle.period_table.proofs.Chains.{true_or_false}

pub put_permutes : (p : Placed) (qs : List Placed) → IsPermutation (p ∷ qs) (put_in_order p qs)
put_permutes p [] = IsPermutation-refl (p ∷ [])
put_permutes p (q ∷ qs) =
    elim (true_or_false (is_le (order_of p q))) [
      | inl before ↦ rw before (IsPermutation-refl (p ∷ (q ∷ qs)))
      | inr after ↦ rw after (
          IsPermutation-trans (p ∷ (q ∷ qs)) (q ∷ (p ∷ qs)) (q ∷ put_in_order p qs)
          (IsPermutation-sym (q ∷ (p ∷ qs)) (p ∷ (q ∷ qs)) (IsPermutation-middle (q ∷ []) p qs))
          (IsPermutation-cons q (p ∷ qs) (put_in_order p qs) (put_permutes p qs))
          )
    ]

pub in_order_permutes : (ps : List Placed) → IsPermutation ps (in_order ps)
in_order_permutes [] = IsPermutation-refl []
in_order_permutes (p ∷ ps) =
    IsPermutation-trans (p ∷ ps) (p ∷ in_order ps) (put_in_order p (in_order ps))
    (IsPermutation-cons p ps (in_order ps) (in_order_permutes ps)) (put_permutes p (in_order ps))

-- the start decides first
by_number : (a b : ℕ) (rest : Ordering) → (is_le (ordering_then (nat_cmp a b) rest) ≡ true → a ≤ b) × (is_le (ordering_then (nat_cmp a b) rest) ≡ false → b ≤ a)
by_number a b rest = (λ h. first h, λ h. second h)
  where
    first : is_le (ordering_then (nat_cmp a b) rest) ≡ true → a ≤ b
    first h = grind (arith, nat_tests)

    second : is_le (ordering_then (nat_cmp a b) rest) ≡ false → b ≤ a
    second h = grind (arith, nat_tests)

by_start : (p q : Placed) → (is_le (order_of p q) ≡ true → start_of p.op ≤ start_of q.op) × (is_le (order_of p q) ≡ false → start_of q.op ≤ start_of p.op)
by_start p q = of_ops p.op q.op p.lane q.lane
  where
    of_ops : (o w : Op) (l m : ℕ) → (is_le (order_of (record { op = o; lane = l }) (record { op = w; lane = m })) ≡ true → start_of o ≤ start_of w)
        × (is_le (order_of (record { op = o; lane = l }) (record { op = w; lane = m })) ≡ false → start_of w ≤ start_of o)
    of_ops (Send i k s) (Send j c u) l m = by_number s u _
    of_ops (Send i k s) (Compute j u) l m = by_number s u _
    of_ops (Compute i s) (Send j c u) l m = by_number s u _
    of_ops (Compute i s) (Compute j u) l m = by_number s u _

abbrev pub ops_of : List Placed → List Op
ops_of ps = map (λ p. p.op) ps

-- the starts of neighbours do not fall
abbrev StartsInOrder : List Op → Type 0
StartsInOrder [] = Unit {0}
StartsInOrder (op ∷ []) = Unit {0}
StartsInOrder (op ∷ (next ∷ rest)) = (start_of op ≤ start_of next) × StartsInOrder (next ∷ rest)

put_starts_in_order : (p : Placed) (qs : List Placed) → StartsInOrder (ops_of qs) → StartsInOrder (ops_of (put_in_order p qs))
put_starts_in_order p [] h = tt
put_starts_in_order p (q ∷ qs) h =
    elim (true_or_false (is_le (order_of p q))) [
      | inl before ↦ rw before ((by_start p q).0 before, h)
      | inr after ↦ rw after (step q qs h ((by_start p q).1 after))
    ]
  where
    step : (q : Placed) (qs : List Placed) → StartsInOrder (ops_of (q ∷ qs)) → start_of q.op ≤ start_of p.op → StartsInOrder (ops_of (q ∷ put_in_order p qs))
    step q [] h le = (le, tt)
    step q (r ∷ rs) h le =
        elim (true_or_false (is_le (order_of p r))) [
          | inl before ↦ rw before (le, ((by_start p r).0 before, h.1))
          | inr after ↦ rw after (h.0, step r rs h.1 ((by_start p r).1 after))
        ]

neighbours_in_order : (ps : List Placed) → StartsInOrder (ops_of (in_order ps))
neighbours_in_order [] = tt
neighbours_in_order (p ∷ ps) = put_starts_in_order p (in_order ps) (neighbours_in_order ps)

all_of_neighbours : (ops : List Op) → StartsInOrder ops → IsNonDecreasingBy start_of ops
all_of_neighbours [] h i j d le l = absurd (omega arith)
all_of_neighbours (op ∷ ops) h zero zero d le l = omega arith
all_of_neighbours (op ∷ []) h zero (suc j) d le l = absurd (omega arith)
all_of_neighbours (op ∷ (next ∷ ops)) h zero (suc j) d le l =
    let rest = all_of_neighbours (next ∷ ops) h.1 0 j d (omega arith) (omega arith) in omega (arith, h.0, rest)
all_of_neighbours (op ∷ ops) h (suc i) zero d le l = absurd (omega arith)
all_of_neighbours (op ∷ []) h (suc i) (suc j) d le l = absurd (omega arith)
all_of_neighbours (op ∷ (next ∷ ops)) h (suc i) (suc j) d le l = all_of_neighbours (next ∷ ops) h.1 i j d (omega arith) (omega arith)

pub starts_in_order : (ps : List Placed) → IsNonDecreasingBy start_of (ops_of (in_order ps))
starts_in_order ps = all_of_neighbours (ops_of (in_order ps)) (neighbours_in_order ps)
