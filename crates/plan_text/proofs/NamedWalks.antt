-- Names tell nodes, and the names on a walk tell its links.
use Rattle.std.proofs.Common.{◌≡◌, ℕ, suc, ◌+◌, ◌<◌, Bool, true, false, ◌&&◌, nat_eq, bytes_eq, List, [], ◌∷◌, length, map, drop, get_or, Bor, refl, sym, ap, ◌∙◌, subst, arith, inl, inr, ap₂}
use Rattle.std.proofs.Math.Seq.{drop-cons}
use Rattle.std.proofs.lemmas.Bool.{cases_order}
use Rattle.std.proofs.lemmas.Bool.Decides.{nat_tests}
use Rattle.std.proofs.lemmas.Slice.Eq.{bytes_eq-Decides}
use Rattle.std.proofs.lemmas.Map.Keys.{apart_from_distinct}
use Rattle.platform_file.specs.Platform.{same_ends, same_name}
use Rattle.platform_file.specs.Ticks.{TimedView, IsTimed}
use Rattle.schedule_model.specs.declared.schedule.Series.{Series}
use Rattle.schedule_model.specs.declared.schedule.Series.TheVariants.{Tasking, Scatter}
use Rattle.schedule_model.specs.Operations.{sender_of, receiver_of, no_link}
use Rattle.period_table.specs.Tables.{IsWalk, first_node, nodes_on}
use Rattle.plan_text.specs.Texts.{name_of, no_node}
use Rattle.plan_text.specs.Walks.{IsNamed, IsHop, IsNamedWalk, IsKind}

-- two places of a list without repetitions that hold the same are one
same_place : {A : Type 0} (e : A → A → Bool) (xs : List A) (other : A) → ((i j : ℕ) → i < j → j < length xs → e (get_or xs i other) (get_or xs j other) ≡ false) →
    (i j : ℕ) → i < length xs → j < length xs → e (get_or xs i other) (get_or xs j other) ≡ true → e (get_or xs j other) (get_or xs i other) ≡ true → i ≡ j
same_place e xs other apart i j a b same back =
    elim (cases_order i j) [
      | inl is ↦ is
      | inr (inl below) ↦ let bad : true ≡ false = sym same ∙ apart i j below b in cc
      | inr (inr above) ↦ let bad : true ≡ false = sym back ∙ apart j i above a in cc
    ]

module _ (t : TimedView) (timed : IsTimed t) where
  -- nodes with one name are one
  pub named_unique : (name : List ℕ) (a b : ℕ) → IsNamed t name a → IsNamed t name b → a ≡ b
  named_unique name a b first second =
      same_place same_name t.platform.nodes no_node (λ i j. apart_from_distinct same_name t.platform.nodes i j no_node timed.platform.names_differ) a b first.exists second.exists
      (same (first.named ∙ sym second.named)) (same (second.named ∙ sym first.named))
    where
      same : {x y : List ℕ} → x ≡ y → bytes_eq x y ≡ true
      same {x} {y} e = (bytes_eq-Decides x y).1 e

  -- links with the same ends are one
  pub ends_unique : (i j : ℕ) → i < length t.platform.links → j < length t.platform.links → sender_of t i ≡ sender_of t j → receiver_of t i ≡ receiver_of t j → i ≡ j
  ends_unique i j a b from to =
      same_place same_ends t.platform.links no_link (λ k l. apart_from_distinct same_ends t.platform.links k l no_link timed.platform.links_differ) i j a b (same _ _ _ _ from to) (same _ _ _ _ (sym from) (sym to))
    where
      same : (f g x y : ℕ) → f ≡ g → x ≡ y → (nat_eq f g && nat_eq x y) ≡ true
      same f g x y e h =
          let first : nat_eq f g ≡ true = grind (arith, nat_tests) in
          let second : nat_eq x y ≡ true = grind (arith, nat_tests) in
          rw (first, second) refl

  receiver_exists : (link : ℕ) → link < length t.platform.links → receiver_of t link < length t.platform.nodes
  receiver_exists link l = (timed.platform.links link no_link l).enters

  pub hop_unique : (at : ℕ) (name : List ℕ) (i j : ℕ) → IsHop t at name i → IsHop t at name j → i ≡ j
  hop_unique at name i j first second =
      ends_unique i j first.exists second.exists (first.leaves ∙ sym second.leaves)
      (named_unique name (receiver_of t i) (receiver_of t j) (record { exists = receiver_exists i first.exists; named = first.enters }) (record { exists = receiver_exists j second.exists; named = second.enters }))

  -- the names tell the links and the end
  pub walk_unique : (at : ℕ) (names : List (List ℕ)) (links others : List ℕ) (end other : ℕ) → IsNamedWalk t at names links end → IsNamedWalk t at names others other → (links ≡ others) × (end ≡ other)
  walk_unique at [] [] [] end other w v = (refl, w ∙ sym v)
  walk_unique at [] [] (k ∷ others) end other w v = absurd v
  walk_unique at [] (k ∷ links) others end other w v = absurd w
  walk_unique at (name ∷ names) [] others end other w v = absurd w
  walk_unique at (name ∷ names) (i ∷ links) [] end other w v = absurd v
  walk_unique at (name ∷ names) (i ∷ links) (j ∷ others) end other w v =
      let same : i ≡ j = hop_unique at name i j w.0 v.0 in
      let more = walk_unique (receiver_of t i) names links others end other w.1 (subst (λ k. IsNamedWalk t (receiver_of t k) names others other) (sym same) v.1) in
      (ap₂ (λ x xs. x ∷ xs) same more.0, more.1)

  -- the kind is told by the end
  pub kind_unique : (series : Series) (end a b : ℕ) → IsKind t series end a → IsKind t series end b → a ≡ b
  kind_unique Tasking end a b first second = first ∙ sym second
  kind_unique Scatter end a b first second =
      same_place nat_eq t.platform.targets 0 (λ i j. apart_from_distinct nat_eq t.platform.targets i j 0 timed.platform.targets_differ) a b first.0 second.0
      (same (sym first.1 ∙ second.1)) (same (sym second.1 ∙ first.1))
    where
      same : {x y : ℕ} → x ≡ y → nat_eq x y ≡ true
      same {x} {y} e = grind (arith, nat_tests)

-- the names behind the first on a walk
abbrev pub names_behind : TimedView → List ℕ → ℕ → List (List ℕ)
names_behind t [] end = []
names_behind t (link ∷ links) end = name_of t (first_node t links end) ∷ names_behind t links end

pub names_on : (t : TimedView) (links : List ℕ) (end : ℕ) → map (name_of t) (nodes_on t links end) ≡ name_of t (first_node t links end) ∷ names_behind t links end
names_on t [] end = refl
names_on t (link ∷ links) end = ap (λ ns. name_of t (sender_of t link) ∷ ns) (names_on t links end)

-- a walk is told by its names
pub walk_named : (t : TimedView) (links : List ℕ) (end : ℕ) → IsWalk t links end → IsNamedWalk t (first_node t links end) (names_behind t links end) links end
walk_named t [] end w = refl
walk_named t (link ∷ links) end w =
    (record { exists = w.0; leaves = refl; enters = ap (name_of t) w.1 }, subst (λ at. IsNamedWalk t at (names_behind t links end) links end) (sym w.1) (walk_named t links end w.3))

-- what a walk over names begins with, and its names
pub named_walk : (t : TimedView) (at : ℕ) (names : List (List ℕ)) (links : List ℕ) (end : ℕ) → IsNamedWalk t at names links end → (first_node t links end ≡ at) × (names_behind t links end ≡ names)
named_walk t at [] [] end w = (w, refl)
named_walk t at [] (link ∷ links) end w = absurd w
named_walk t at (name ∷ names) [] end w = absurd w
named_walk t at (name ∷ names) (link ∷ links) end w =
    let rest = named_walk t (receiver_of t link) names links end w.1 in
    (w.0.leaves, ap₂ (λ x xs. x ∷ xs) (ap (name_of t) rest.0 ∙ w.0.enters) rest.1)

-- a walk over the names from one on goes over the first of them, and on
pub from_next : (t : TimedView) (at link : ℕ) (names : List (Bor (List ℕ))) (i : ℕ) (d : Bor (List ℕ)) → i < length names → IsHop t at (get_or names i d).now link → (rest : List ℕ) (end : ℕ) →
    IsNamedWalk t (receiver_of t link) (map (λ name. name.now) (drop (i + 1) names)) rest end → IsNamedWalk t at (map (λ name. name.now) (drop i names)) (link ∷ rest) end
from_next t at link names i d l hop rest end w = rw (drop-cons names i d l) (hop, subst (λ k. IsNamedWalk t (receiver_of t link) (map (λ name. name.now) (drop k names)) rest end) (one_more i) w)
  where
    one_more : (n : ℕ) → n + 1 ≡ suc n
    one_more n = omega arith

pub to_next : (t : TimedView) → IsTimed t → (at link : ℕ) (names : List (Bor (List ℕ))) (i : ℕ) (d : Bor (List ℕ)) → i < length names → IsHop t at (get_or names i d).now link → (rest : List ℕ) (end : ℕ) →
    IsNamedWalk t at (map (λ name. name.now) (drop i names)) rest end → (more : List ℕ) × IsNamedWalk t (receiver_of t link) (map (λ name. name.now) (drop (i + 1) names)) more end
to_next t timed at link names i d l hop rest end w = next (map (λ name. name.now) (drop (i + 1) names)) rest (subst (λ ns. IsNamedWalk t at (map (λ name. name.now) ns) rest end) (drop-cons names i d l ∙ same (one_more i)) w)
  where
    one_more : (n : ℕ) → suc n ≡ n + 1
    one_more n = omega arith

    same : {m n : ℕ} → m ≡ n → get_or names i d ∷ drop m names ≡ get_or names i d ∷ drop n names
    same e = ap (λ k. get_or names i d ∷ drop k names) e

    next : (others : List (List ℕ)) (rest : List ℕ) → IsNamedWalk t at ((get_or names i d).now ∷ others) rest end → (more : List ℕ) × IsNamedWalk t (receiver_of t link) others more end
    next others [] w = absurd w
    next others (first ∷ more) w = (more, subst (λ k. IsNamedWalk t (receiver_of t k) others more end) (hop_unique t timed at (get_or names i d).now first link w.0 hop) w.1)
