-- A list has one order: what is sorted by key and has the same operations is the list put into order.
use Rattle.std.proofs.Common.{◌≡◌, ℕ, suc, ◌+◌, true, false, cond, List, [], ◌∷◌, refl, sym, ◌∙◌, ap, arith, inl, inr, All, sum_by}
use Rattle.std.specs.declared.cmp.Ordering.{Ordering}
use Rattle.std.specs.declared.cmp.Ordering.TheVariants.{Less, Equal, Greater}
use Rattle.std.specs.Ordering.{nat_cmp, is_le, is_lt, is_gt, is_eq, ordering_reverse, ordering_then}
use Rattle.std.specs.Cmp.{IsTotalOrder}
use Rattle.std.specs.Cmp.Lexicographic.{slice_cmp}
use Rattle.std.specs.List.Sorted.{IsPermutation, IsSortedBy}
use Rattle.std.proofs.lemmas.Bool.Decides.{nat_tests}
use Rattle.std.proofs.lemmas.Cmp.{upto, tied_itself, alike_right, on_total, nat_list_cmp_total}
use Rattle.std.proofs.lemmas.List.Elements.{All-cons, All-nil, All-weaker}
use Rattle.std.proofs.lemmas.List.Sums.{sum_by-cons}
use Rattle.std.proofs.lemmas.List.Sorted.{ranks_by, sum_by-IsPermutation, All-permutation, sorted_far}
use Rattle.schedule_model.specs.declared.schedule.Op.{Op}
use Rattle.schedule_model.specs.declared.schedule.Op.TheVariants.{Send, Compute}
use Rattle.period_table.specs.TableSchedules.{Placed, order_of, key_of_op, key_of, put_in_order, in_order}
use Rattle.period_table.proofs.Chains.{true_or_false, count_none}
use Rattle.period_table.proofs.Sorting.{in_order_permutes, put_permutes}

module _ {X : Type 0} (R : X → X → Ordering) (total : IsTotalOrder R) (same : (x y : X) → R x y ≡ Equal → x ≡ y) where
  -- each item is at most each that follows
  abbrev pub Rises : List X → Type 0
  Rises [] = Unit {0}
  Rises (x ∷ xs) = All (λ y. is_gt (R x y) ≡ false) xs × Rises xs

  abbrev SameSums : List X → List X → Type 0
  SameSums xs ys = (f : X → ℕ) → sum_by f xs ≡ sum_by f ys

  -- what is in the other list is at least its head
  at_least_head : (x y : X) (xs ys : List X) → SameSums (x ∷ xs) (y ∷ ys) → All (λ z. is_gt (R y z) ≡ false) ys → is_gt (R y x) ≡ false
  at_least_head x y xs ys sums rises = elim (true_or_false (is_gt (R y x))) [
    | inl above ↦ absurd (none_and_one _ _ _ _
        (count_none (λ z. is_eq (R x z)) (y ∷ ys) (All-weaker (λ z. is_gt (R y z) ≡ false) (λ z. is_eq (R x z) ≡ false) (λ z h. unlike z above h) (y ∷ ys)
        (All-cons (λ z. is_gt (R y z) ≡ false) y ys (ap is_gt (tied_itself total y)) rises)))
        (sums (λ z. cond (is_eq (R x z)) 1 0))
        (sum_by-cons (λ z. cond (is_eq (R x z)) 1 0) x xs)
        (ap (λ o. cond {A = ℕ} (is_eq o) 1 0) (tied_itself total x)))
    | inr not ↦ not
  ]
    where
      none_and_one : (a b v n : ℕ) → a ≡ 0 → b ≡ a → b ≡ v + n → v ≡ 1 → ⊥
      none_and_one a b v n e f g h = omega arith

      unlike : (z : X) → is_gt (R y x) ≡ true → is_gt (R y z) ≡ false → is_eq (R x z) ≡ false
      unlike z above h = elim (true_or_false (is_eq (R x z))) [
        | inl tied ↦ absurd (clash (sym above ∙ ap is_gt (alike_right total x z y (equal (R x z) tied)) ∙ h))
        | inr apart ↦ apart
      ]
        where
          clash : true ≡ false → ⊥
          clash e = cc

          equal : (o : Ordering) → is_eq o ≡ true → o ≡ Equal
          equal Less e = cc
          equal Equal e = refl
          equal Greater e = cc

  tied : (x y : X) → is_gt (R x y) ≡ false → is_gt (R y x) ≡ false → R x y ≡ Equal
  tied x y h k = of_orders (R x y) (R y x) (total.antisymm x y) h k
    where
      of_orders : (o w : Ordering) → o ≡ ordering_reverse w → is_gt o ≡ false → is_gt w ≡ false → o ≡ Equal
      of_orders o Less e h k = absurd (clash (sym (ap is_gt e) ∙ h))
        where
          clash : true ≡ false → ⊥
          clash e = cc
      of_orders o Equal e h k = e
      of_orders o Greater e h k = cc

  pub one_order : (xs ys : List X) → Rises xs → Rises ys → SameSums xs ys → xs ≡ ys
  one_order [] [] h k sums = refl
  one_order [] (y ∷ ys) h k sums = absurd (some _ _ (sums (λ z. 1)) (sum_by-cons (λ z. 1) y ys))
    where
      some : (a b : ℕ) → 0 ≡ a → a ≡ 1 + b → ⊥
      some a b e f = omega arith
  one_order (x ∷ xs) [] h k sums = absurd (some _ _ (sums (λ z. 1)) (sum_by-cons (λ z. 1) x xs))
    where
      some : (a b : ℕ) → a ≡ 0 → a ≡ 1 + b → ⊥
      some a b e f = omega arith
  one_order (x ∷ xs) (y ∷ ys) h k sums =
      let e : x ≡ y = same x y (tied x y (at_least_head y x ys xs (λ f. sym (sums f)) h.0) (at_least_head x y xs ys sums k.0)) in
      let rest = one_order xs ys h.1 k.1 (λ f. cancel _ _ _ _ _ _ (sums f) (sum_by-cons f x xs) (sum_by-cons f y ys) (ap f e)) in
      cc
    where
      cancel : (a b v w m n : ℕ) → a ≡ b → a ≡ v + m → b ≡ w + n → v ≡ w → m ≡ n
      cancel a b v w m n e f g h = omega arith

-- ---- the operations of a table

order_total : IsTotalOrder order_of
order_total = on_total key_of nat_list_cmp_total

same_key : (xs ys : List ℕ) → slice_cmp nat_cmp xs ys ≡ Equal → xs ≡ ys
same_key [] [] e = refl
same_key [] (y ∷ ys) e = cc
same_key (x ∷ xs) [] e = cc
same_key (x ∷ xs) (y ∷ ys) e =
    let head = first x y (slice_cmp nat_cmp xs ys) e in
    let rest = same_key xs ys head.1 in
    let same : x ≡ y = head.0 in
    cc
  where
    first : (a b : ℕ) (o : Ordering) → ordering_then (nat_cmp a b) o ≡ Equal → (a ≡ b) × (o ≡ Equal)
    first a b o e = grind (arith, nat_tests)

-- the key is the whole operation
of_key : (o w : Op) (l m : ℕ) → key_of_op o l ≡ key_of_op w m → (o ≡ w) × (l ≡ m)
of_key (Send i k s) (Send j c u) l m e = (cc, cc)
of_key (Send i k s) (Compute j u) l m e = cc
of_key (Compute i s) (Send j c u) l m e = cc
of_key (Compute i s) (Compute j u) l m e = (cc, cc)

abbrev placed : Op → ℕ → Placed
placed op lane = record { op = op; lane = lane }

order_same : (p q : Placed) → order_of p q ≡ Equal → p ≡ q
order_same p q e =
    let k = of_key p.op q.op p.lane q.lane (same_key (key_of p) (key_of q) e) in
    ap (λ (op : Op). placed op p.lane) k.0 ∙ ap (placed q.op) k.1

put_rises : (p : Placed) (qs : List Placed) → Rises order_of order_total order_same qs → Rises order_of order_total order_same (put_in_order p qs)
put_rises p [] h = (All-nil (λ q. is_gt (order_of p q) ≡ false), tt)
put_rises p (q ∷ qs) h =
    elim (true_or_false (is_le (order_of p q))) [
      | inl before ↦
          let first : is_gt (order_of p q) ≡ false = not_above (order_of p q) before in
          rw before (
            All-cons (λ r. is_gt (order_of p r) ≡ false) q qs first
                (All-weaker (λ r. is_gt (order_of q r) ≡ false) (λ r. is_gt (order_of p r) ≡ false) (λ r k. upto order_total p q r first k) qs h.0),
            h,
          )
      | inr after ↦ rw after (
        All-permutation (λ r. is_gt (order_of q r) ≡ false) (p ∷ qs) (put_in_order p qs) (put_permutes p qs)
            (All-cons (λ r. is_gt (order_of q r) ≡ false) p qs (above (order_of p q) (order_of q p) (order_total.antisymm q p) after) h.0),
        put_rises p qs h.1,
      )
    ]
  where
    not_above : (o : Ordering) → is_le o ≡ true → is_gt o ≡ false
    not_above Less e = refl
    not_above Equal e = refl
    not_above Greater e = cc

    above : (o w : Ordering) → w ≡ ordering_reverse o → is_le o ≡ false → is_gt w ≡ false
    above Less w e h = cc
    above Equal w e h = cc
    above Greater w e h = rw e refl

in_order_rises : (ps : List Placed) → Rises order_of order_total order_same (in_order ps)
in_order_rises [] = tt
in_order_rises (p ∷ ps) = put_rises p (in_order ps) (in_order_rises ps)

-- from the words of std's sorts
rises_from_sorted : (qs : List Placed) → IsSortedBy (λ p q. is_lt (order_of p q)) qs → Rises order_of order_total order_same qs
rises_from_sorted [] h = tt
rises_from_sorted (q ∷ qs) h = (
  λ k d l. not_below _ _ (order_total.antisymm q _) (sorted_far (λ p r. is_lt (order_of p r)) (ranks_by order_total (λ r. r)) (q ∷ qs) h 0 (suc k) d (omega arith) (omega arith)),
  rises_from_sorted qs (λ k d l m. (let e : suc k + 1 ≡ suc (k + 1) = omega arith in rw e at (h (suc k) d (omega arith) (omega arith)))),
)
  where
    not_below : (o w : Ordering) → o ≡ ordering_reverse w → is_lt w ≡ false → is_gt o ≡ false
    not_below o Less e h = cc
    not_below o Equal e h = rw e refl
    not_below o Greater e h = rw e refl

-- what a sort by the key makes of a list is the list put into order
pub sorted_is_in_order : (ps qs : List Placed) → IsPermutation ps qs → IsSortedBy (λ p q. is_lt (order_of p q)) qs → qs ≡ in_order ps
sorted_is_in_order ps qs moves sorted =
    one_order order_of order_total order_same qs (in_order ps) (rises_from_sorted qs sorted) (in_order_rises ps)
    (λ f. sum_by-IsPermutation f ps qs moves ∙ sym (sum_by-IsPermutation f ps (in_order ps) (in_order_permutes ps)))
