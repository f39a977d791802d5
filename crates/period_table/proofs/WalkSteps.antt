-- Walks and the nodes on them, link by link from the end.
use Rattle.std.proofs.Common.{◌≡◌, ℕ, zero, suc, ◌-◌, ◌<◌, ◌≢◌, true, false, Bool, List, [], ◌∷◌, length, drop, get_or, slice_set, nat_eq, refl, sym, ◌∙◌, subst, arith, inl, inr}
use Rattle.std.specs.List.{IsDistinct, AllByRecursion, list_any}
use Rattle.std.proofs.Math.Seq.{drop-cons}
use Rattle.std.proofs.lemmas.Bool.Decides.{nat_tests}
use Rattle.std.proofs.lemmas.Map.Keys.{IsDistinct-tail}
use Rattle.std.proofs.lemmas.List.{get_or-set_same, get_or-set_other}
use Rattle.platform_file.specs.Ticks.{TimedView}
use Rattle.schedule_model.specs.Operations.{sender_of}
use Rattle.period_table.specs.Tables.{IsWalk, nodes_on}
use Rattle.period_table.proofs.Chains.{true_or_false}

-- what follows on a walk is a walk
pub walk_rest : (t : TimedView) (links : List ℕ) (end k : ℕ) → IsWalk t links end → IsWalk t (drop k links) end
walk_rest t links end zero w = w
walk_rest t [] end (suc k) w = w
walk_rest t (link ∷ links) end (suc k) w = walk_rest t links end k w.3

-- the nodes of what follows differ
pub simple_rest : (t : TimedView) (links : List ℕ) (end k : ℕ) → IsDistinct nat_eq (nodes_on t links end) → IsDistinct nat_eq (nodes_on t (drop k links) end)
simple_rest t links end zero d = d
simple_rest t [] end (suc k) d = d
simple_rest t (link ∷ links) end (suc k) d = simple_rest t links end k (IsDistinct-tail nat_eq (sender_of t link) (nodes_on t links end) d)

-- the link before what follows
pub next_link : (links : List ℕ) (k : ℕ) → 0 < k → k - 1 < length links → drop (k - 1) links ≡ get_or links (k - 1) 0 ∷ drop k links
next_link links zero some l = absurd (omega arith)
next_link links (suc k) some l = let e : suc k - 1 ≡ k = omega arith in rw e (drop-cons links k 0 (rw e at l))

pub walk_from : (t : TimedView) (links : List ℕ) (end k : ℕ) → 0 < k → k - 1 < length links → IsWalk t links end → IsWalk t (get_or links (k - 1) 0 ∷ drop k links) end
walk_from t links end k some l w = subst (λ ls. IsWalk t ls end) (next_link links k some l) (walk_rest t links end (k - 1) w)

pub simple_from : (t : TimedView) (links : List ℕ) (end k : ℕ) → 0 < k → k - 1 < length links → IsDistinct nat_eq (nodes_on t links end) →
    IsDistinct nat_eq (nodes_on t (get_or links (k - 1) 0 ∷ drop k links) end)
simple_from t links end k some l d = subst (λ ls. IsDistinct nat_eq (nodes_on t ls end)) (next_link links k some l) (simple_rest t links end (k - 1) d)

-- none of some nodes is a node
pub none_is : (node : ℕ) (nodes : List ℕ) → list_any (nat_eq node) nodes ≡ false → AllByRecursion (λ other. nat_eq node other ≡ false) nodes
none_is node [] e = tt
none_is node (other ∷ nodes) e =
    elim (true_or_false (nat_eq node other)) [
      | inl is ↦ let bad : true ≡ false = sym (rw is refl) ∙ e in absurd (cc)
      | inr not ↦ (not, none_is node nodes (rw not at e))
    ]

pub some_is : (node : ℕ) (nodes : List ℕ) → list_any (nat_eq node) nodes ≡ true → AllByRecursion (λ other. nat_eq node other ≡ false) nodes → ⊥
some_is node [] e none = cc
some_is node (other ∷ nodes) e none = some_is node nodes (rw (none.0) at e) none.1

-- the marks of the nodes seen, after one more
pub marked : (seen : List Bool) (nodes : List ℕ) (from : ℕ) → length seen ≡ 32 → from < 32 → ((node : ℕ) → node < 32 → get_or seen node false ≡ list_any (nat_eq node) nodes) →
    (node : ℕ) → node < 32 → get_or (slice_set seen from true) node false ≡ list_any (nat_eq node) (from ∷ nodes)
marked seen nodes from size small h node l =
    elim (true_or_false (nat_eq node from)) [
      | inl is ↦
          let e : node ≡ from = grind (arith, nat_tests) in
          subst (λ n. get_or (slice_set seen from true) n false ≡ list_any (nat_eq n) (from ∷ nodes)) (sym e) (get_or-set_same seen from true false (omega (arith, size, small)) ∙ sym (rw (itself from) refl))
      | inr not ↦ get_or-set_other seen from node true false (differ node from not) ∙ h node l ∙ sym (rw not refl)
    ]
  where
    itself : (n : ℕ) → nat_eq n n ≡ true
    itself n = grind (arith, nat_tests)

    differ : (a b : ℕ) → nat_eq a b ≡ false → a ≢ b
    differ a b e same = grind (arith, nat_tests)

-- the marks at the beginning
pub first_marked : (seen : List Bool) (end : ℕ) → length seen ≡ 32 → end < 32 → ((node : ℕ) → node < 32 → get_or seen node false ≡ false) →
    (node : ℕ) → node < 32 → get_or (slice_set seen end true) node false ≡ list_any (nat_eq node) (end ∷ [])
first_marked seen end size small h = marked seen [] end size small h

-- one node alone is there once
pub alone : (node : ℕ) → IsDistinct nat_eq (node ∷ [])
unfolding IsDistinct
alone node = (tt, tt)
