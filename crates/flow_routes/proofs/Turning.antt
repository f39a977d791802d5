-- A walk backward, turned round, is a walk from the master.
use Rattle.std.proofs.Common.{◌≡◌, ℕ, zero, suc, ◌<◌, false, nat_eq, List, [], ◌∷◌, ◌++◌, length, get_or, arith, refl, sym, ◌∙◌, ap, inl, inr, ◌⊎◌}
use Rattle.std.specs.Prelude.{reverse}
use Rattle.std.specs.List.{IsDistinct, AllByRecursion}
use Rattle.std.proofs.lemmas.Bool.{cases_eq, cases_lt, eq-eqb, ne_eqb}
use Rattle.std.proofs.lemmas.Grind.{reverse_onto}
use Rattle.std.proofs.lemmas.List.Sorted.{IsPermutation-reverse}
use Rattle.std.proofs.lemmas.Map.Keys.{IsDistinct-IsPermutation}
use Rattle.flow_routes.specs.Flows.{link_at}
use Rattle.flow_routes.specs.Routes.{first_node, nodes_on, IsWalk}
use Rattle.flow_routes.specs.Walks.{LeadsBack, node_on, IsBackWalk}

-- the nodes of a walk backward, from its node on
abbrev pub back_nodes : List (ℕ × ℕ) → ℕ → List ℕ → List ℕ
back_nodes links node [] = node ∷ []
back_nodes links node (k ∷ ks) = node ∷ back_nodes links (link_at links k).0 ks

-- a walk with one link more behind it
first_longer : (links : List (ℕ × ℕ)) (ks : List ℕ) (k end : ℕ) → first_node links (ks ++ k ∷ []) end ≡ first_node links ks (link_at links k).0
first_longer links [] k end = refl
first_longer links (x ∷ xs) k end = refl

walk_longer : (links : List (ℕ × ℕ)) (ks : List ℕ) (k end : ℕ) → IsWalk links ks (link_at links k).0 → k < length links → (link_at links k).1 ≡ end → IsWalk links (ks ++ k ∷ []) end
walk_longer links [] k end walk inside enters = (inside, enters, tt {0})
walk_longer links (x ∷ xs) k end (here, meets, rest) inside enters =
    (here, meets ∙ sym (first_longer links xs k end), walk_longer links xs k end rest inside enters)

nodes_longer : (links : List (ℕ × ℕ)) (ks : List ℕ) (k end : ℕ) → nodes_on links (ks ++ k ∷ []) end ≡ nodes_on links ks (link_at links k).0 ++ end ∷ []
nodes_longer links [] k end = refl
nodes_longer links (x ∷ xs) k end = ap (λ l. (link_at links x).0 ∷ l) (nodes_longer links xs k end)

reversed : (x : ℕ) (xs : List ℕ) → reverse (x ∷ xs) ≡ reverse xs ++ x ∷ []
reversed x xs = reverse_onto xs x []

pub turned_walk : (links : List (ℕ × ℕ)) (node : ℕ) (path : List ℕ) (start : ℕ) → LeadsBack links node path start → ((place : ℕ) → place < length path → get_or path place 0 < length links) → IsWalk links (reverse path) node
turned_walk links node [] start leads inside = tt {0}
turned_walk links node (k ∷ ks) start (here, rest) inside =
    rw (reversed k ks) (walk_longer links (reverse ks) k node (turned_walk links (link_at links k).0 ks start rest (λ place l. inside (suc place) (omega arith))) (inside 0 (omega arith)) here)

pub turned_first : (links : List (ℕ × ℕ)) (node : ℕ) (path : List ℕ) (start : ℕ) → LeadsBack links node path start → first_node links (reverse path) node ≡ start
turned_first links node [] start leads = leads
turned_first links node (k ∷ ks) start (here, rest) =
    rw (reversed k ks) (first_longer links (reverse ks) k node ∙ turned_first links (link_at links k).0 ks start rest)

pub turned_nodes : (links : List (ℕ × ℕ)) (node : ℕ) (path : List ℕ) → nodes_on links (reverse path) node ≡ reverse (back_nodes links node path)
turned_nodes links node [] = refl
turned_nodes links node (k ∷ ks) =
    rw (reversed k ks)
    (nodes_longer links (reverse ks) k node ∙ ap (λ l. l ++ node ∷ []) (turned_nodes links (link_at links k).0 ks)
    ∙ sym (reversed node (back_nodes links (link_at links k).0 ks)))

-- the nodes at which a walk's links enter, and its end, are its nodes
pub back_node_at : (links : List (ℕ × ℕ)) (node : ℕ) (path : List ℕ) (start place : ℕ) → LeadsBack links node path start → place < length path → get_or (back_nodes links node path) place 0 ≡ node_on links path place
back_node_at links node [] start place leads l = absurd (omega arith)
back_node_at links node (k ∷ ks) start zero (here, rest) l = sym here
back_node_at links node (k ∷ ks) start (suc place) (here, rest) l = back_node_at links (link_at links k).0 ks start place rest (omega arith)

pub back_node_last : (links : List (ℕ × ℕ)) (node : ℕ) (path : List ℕ) (start : ℕ) → LeadsBack links node path start → get_or (back_nodes links node path) (length path) 0 ≡ start
back_node_last links node [] start leads = leads
back_node_last links node (k ∷ ks) start (here, rest) = back_node_last links (link_at links k).0 ks start rest

pub back_nodes_length : (links : List (ℕ × ℕ)) (node : ℕ) (path : List ℕ) → length (back_nodes links node path) ≡ suc (length path)
back_nodes_length links node [] = refl
back_nodes_length links node (k ∷ ks) = ap suc (back_nodes_length links (link_at links k).0 ks)

all_from_index : (P : ℕ → Type 0) (xs : List ℕ) → ((i : ℕ) → i < length xs → P (get_or xs i 0)) → AllByRecursion P xs
all_from_index P [] h = tt
all_from_index P (x ∷ xs) h = (h 0 (omega arith), all_from_index P xs (λ i l. h (suc i) (omega arith)))

distinct_from_index : (xs : List ℕ) → ((i j : ℕ) → i < length xs → j < length xs → get_or xs i 0 ≡ get_or xs j 0 → i ≡ j) → IsDistinct nat_eq xs
unfolding IsDistinct
distinct_from_index [] h = tt
distinct_from_index (x ∷ xs) h = (
  all_from_index (λ y. nat_eq x y ≡ false) xs (λ i l. ne_eqb x (get_or xs i 0) (λ e. never i (h 0 (suc i) (omega arith) (omega arith) e))),
  distinct_from_index xs (λ i j l m e. less i j (h (suc i) (suc j) (omega arith) (omega arith) e)),
)
  where
    never : (i : ℕ) → zero ≡ suc i → ⊥
    never i e = omega arith

    less : (i j : ℕ) → suc i ≡ suc j → i ≡ j
    less i j e = omega arith

same_test : (x y : ℕ) → nat_eq x y ≡ nat_eq y x
same_test x y =
    elim (cases_eq x y) [
      | inl same ↦ rw (eq-eqb x y same, eq-eqb y x (sym same)) refl
      | inr apart ↦ rw (ne_eqb x y apart, ne_eqb y x (λ e. apart (sym e))) refl
    ]

-- a walk to the master goes through different nodes
pub turned_simple : (master : ℕ) (links : List (ℕ × ℕ)) (amounts : List ℕ) (node : ℕ) (path : List ℕ) → IsBackWalk master links amounts node path master → IsDistinct nat_eq (nodes_on links (reverse path) node)
turned_simple master links amounts node path w =
    rw (turned_nodes links node path)
    (IsDistinct-IsPermutation nat_eq same_test (back_nodes links node path) (reverse (back_nodes links node path)) (IsPermutation-reverse (back_nodes links node path))
    (distinct_from_index (back_nodes links node path)
    (λ i j l m e. apart i j (which i (rw (back_nodes_length links node path) at l)) (which j (rw (back_nodes_length links node path) at m)) e)))
  where
    which : (i : ℕ) → i < suc (length path) → (i < length path) ⊎ (i ≡ length path)
    which i l = elim (cases_lt i (length path)) [ inl h ↦ inl h | inr h ↦ inr (omega arith) ]

    at : (i : ℕ) → i < length path → get_or (back_nodes links node path) i 0 ≡ node_on links path i
    at i l = back_node_at links node path master i w.leads l

    last : (i : ℕ) → i ≡ length path → get_or (back_nodes links node path) i 0 ≡ master
    last i e = ap (λ k. get_or (back_nodes links node path) k 0) e ∙ back_node_last links node path master w.leads

    apart : (i j : ℕ) → (i < length path) ⊎ (i ≡ length path) → (j < length path) ⊎ (j ≡ length path) → get_or (back_nodes links node path) i 0 ≡ get_or (back_nodes links node path) j 0 → i ≡ j
    apart i j (inl l) (inl m) e = w.differ i j l m (sym (at i l) ∙ e ∙ at j m)
    apart i j (inl l) (inr m) e = absurd (w.no_master i l (sym (at i l) ∙ e ∙ last j m))
    apart i j (inr l) (inl m) e = absurd (w.no_master j m (sym (at j m) ∙ sym e ∙ last i l))
    apart i j (inr l) (inr m) e = l ∙ sym m
