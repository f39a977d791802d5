-- A walk backward grows by one link.
use Rattle.std.proofs.Common.{◌≡◌, ℕ, ◌+◌, ◌<◌, ◌≤◌, ◌≢◌, ◌⊎◌, inl, inr, Bool, true, false, not, cond, List, [], ◌∷◌, ◌++◌, length, drop, get_or, set, slice_index, arith, refl, sym, ◌∙◌, ap, subst}
use Rattle.std.proofs.lemmas.Bool.{cases_eq, cases_lt, eq-eqb, eqb-true, false≢true}
use Rattle.std.proofs.lemmas.List.{length_push, get_or-set_same, get_or-set_other, get_or_append_left, get_or_push, get_or-drop, length-drop}
use Rattle.std.proofs.lemmas.List.Sums.{sum_by-set}
use Rattle.flow_routes.specs.Flows.{passing, enters, leaves, IsKept, LinksExist, link_at}
use Rattle.flow_routes.specs.Walks.{LeadsBack, IsFirstEntering, is_marked, node_on, unmarked, IsBackWalk, IsEnough}
use Rattle.flow_routes.proofs.Flows.{some_passing, none_passing, leads_more, enough_along}

-- as long as no link was found there is one further on
pub not_past : (links : List (ℕ × ℕ)) (amounts : List ℕ) (node link : ℕ) → length amounts ≡ length links → 0 < passing (enters node) links amounts →
    ((j : ℕ) → j < link → (link_at links j).1 ≡ node → get_or amounts j 0 ≡ 0) → link < length links
not_past links amounts node link e some h =
    elim (cases_lt link (length links)) [
      | inl l ↦ l
      | inr l ↦ absurd (never _ some (none_passing (enters node) links amounts e (λ j k t. h j (omega arith) (eqb-true (link_at links j).1 node t))))
    ]
  where
    never : (x : ℕ) → 0 < x → x ≡ 0 → ⊥
    never x p q = omega arith

pub unmarked-set : (marked : List Bool) (v : ℕ) → v < length marked → is_marked marked v ≡ false → unmarked (set marked v true) < unmarked marked
unfolding unmarked
unmarked-set marked v l e = counted _ _ _ (sum_by-set (λ x. cond {A = ℕ} (not x) 1 0) marked v true false l) (ap (λ x. cond {A = ℕ} (not x) 1 0) e)
  where
    counted : (all all' here : ℕ) → all' + here ≡ all + 0 → here ≡ 1 → all' < all
    counted all all' here p q = omega arith

pub record IsWalking (master : ℕ) (links : List (ℕ × ℕ)) (amounts : List ℕ) (node nodes : ℕ) (path : List ℕ) (marked : List Bool) (at : ℕ) : Type 0 where
  pub inside : at < nodes
  pub leads : LeadsBack links node path at
  pub firsts : (place : ℕ) → place < length path → IsFirstEntering links amounts (node_on links path place) (slice_index path place)
  pub differ : (place other : ℕ) → place < length path → other < length path → node_on links path place ≡ node_on links path other → place ≡ other
  pub no_master : (place : ℕ) → place < length path → node_on links path place ≢ master
  pub marks : (place : ℕ) → place < length path → is_marked marked (node_on links path place) ≡ true
  pub met : (v : ℕ) → is_marked marked v ≡ true → (place : ℕ) × (place < length path) × (node_on links path place ≡ v)
  pub some : at ≢ master → 0 < passing (enters at) links amounts

module _ (master : ℕ) (links : List (ℕ × ℕ)) (amounts : List ℕ) (demand : ℕ → ℕ) (node nodes : ℕ) (path : List ℕ) (marked : List Bool) (at link : ℕ) where
  old : (place : ℕ) → place < length path → get_or (path ++ link ∷ []) place 0 ≡ get_or path place 0
  old place l = get_or_append_left path (link ∷ []) 0 place l

  new : (place : ℕ) → place ≡ length path → get_or (path ++ link ∷ []) place 0 ≡ link
  new place e = get_or_push path link 0 place (sym e)

  before : (place : ℕ) → place < length (path ++ link ∷ []) → (place ≡ length path) ⊎ (place ≢ length path) → (place ≡ length path) ⊎ (place < length path)
  before place l (inl e) = inl e
  before place l (inr ne) = inr (omega (arith, length_push path link))

  which : (place : ℕ) → place < length (path ++ link ∷ []) → (place ≡ length path) ⊎ (place < length path)
  which place l = before place l (cases_eq place (length path))

  pub walking_more : IsWalking master links amounts node nodes path marked at → at ≢ master → is_marked marked at ≡ false → IsFirstEntering links amounts at link →
      length amounts ≡ length links → LinksExist links nodes → IsKept master links amounts demand → length marked ≡ nodes →
      IsWalking master links amounts node nodes (path ++ link ∷ []) (set marked at true) (link_at links link).0
  walking_more w not_master fresh first lengths exist kept marks_length = record {
    inside = (exist link first.inside).0;
    leads = leads_more links node path at link w.leads first.enters_it;
    firsts = λ place l. firsts place (which place l);
    differ = λ place other l k e. differ place other (which place l) (which other k) e;
    no_master = λ place l e. no_master place (which place l) e;
    marks = λ place l. marks place (which place l);
    met = λ v t. met v t (cases_eq v at);
    some = λ ne. some ne (kept (link_at links link).0 ne) (some_passing (leaves (link_at links link).0) links amounts link first.inside lengths (eq-eqb (link_at links link).0 (link_at links link).0 refl)) first.some;
  }
    where
      here : (place : ℕ) → place ≡ length path → node_on links (path ++ link ∷ []) place ≡ at
      here place e = ap (λ k. (link_at links k).1) (new place e) ∙ first.enters_it

      there : (place : ℕ) → place < length path → node_on links (path ++ link ∷ []) place ≡ node_on links path place
      there place l = ap (λ k. (link_at links k).1) (old place l)

      firsts : (place : ℕ) → (place ≡ length path) ⊎ (place < length path) → IsFirstEntering links amounts (node_on links (path ++ link ∷ []) place) (slice_index (path ++ link ∷ []) place)
      firsts place (inl e) =
          subst (λ k. IsFirstEntering links amounts (link_at links k).1 k) (sym (new place e)) (subst (λ v. IsFirstEntering links amounts v link) (sym first.enters_it) first)
      firsts place (inr l) = subst (λ k. IsFirstEntering links amounts (link_at links k).1 k) (sym (old place l)) (w.firsts place l)

      fresh_node : (place : ℕ) → place < length path → node_on links path place ≡ at → ⊥
      fresh_node place l e = false≢true (sym fresh ∙ ap (is_marked marked) (sym e) ∙ w.marks place l)

      differ : (place other : ℕ) → (place ≡ length path) ⊎ (place < length path) → (other ≡ length path) ⊎ (other < length path) →
          node_on links (path ++ link ∷ []) place ≡ node_on links (path ++ link ∷ []) other → place ≡ other
      differ place other (inl a) (inl b) e = a ∙ sym b
      differ place other (inl a) (inr b) e = absurd (fresh_node other b (sym (there other b) ∙ sym e ∙ here place a))
      differ place other (inr a) (inl b) e = absurd (fresh_node place a (sym (there place a) ∙ e ∙ here other b))
      differ place other (inr a) (inr b) e = w.differ place other a b (sym (there place a) ∙ e ∙ there other b)

      no_master : (place : ℕ) → (place ≡ length path) ⊎ (place < length path) → node_on links (path ++ link ∷ []) place ≡ master → ⊥
      no_master place (inl a) e = not_master (sym (here place a) ∙ e)
      no_master place (inr a) e = w.no_master place a (sym (there place a) ∙ e)

      inside_marks : at < length marked
      inside_marks = omega (arith, w.inside, marks_length)

      marks : (place : ℕ) → (place ≡ length path) ⊎ (place < length path) → is_marked (set marked at true) (node_on links (path ++ link ∷ []) place) ≡ true
      marks place (inl a) = ap (is_marked (set marked at true)) (here place a) ∙ get_or-set_same marked at true false inside_marks
      marks place (inr a) =
          ap (is_marked (set marked at true)) (there place a) ∙ get_or-set_other marked at (node_on links path place) true false (fresh_node place a) ∙ w.marks place a

      met : (v : ℕ) → is_marked (set marked at true) v ≡ true → (v ≡ at) ⊎ (v ≢ at) → (place : ℕ) × (place < length (path ++ link ∷ [])) × (node_on links (path ++ link ∷ []) place ≡ v)
      met v t (inl a) = (length path, omega (arith, length_push path link), here (length path) refl ∙ sym a)
      met v t (inr a) =
          let m = w.met v (sym (get_or-set_other marked at v true false a) ∙ t) in
          (m.0, longer m.0 m.1, there m.0 m.1 ∙ m.2)
        where
          longer : (place : ℕ) → place < length path → place < length (path ++ link ∷ [])
          longer place l = omega (arith, length_push path link)

      some : (link_at links link).0 ≢ master →
          demand (link_at links link).0 + passing (leaves (link_at links link).0) links amounts ≤ passing (enters (link_at links link).0) links amounts →
          get_or amounts link 0 ≤ passing (leaves (link_at links link).0) links amounts → 0 < get_or amounts link 0 → 0 < passing (enters (link_at links link).0) links amounts
      some ne p q r = omega arith

-- a walk, or what it has from one of its places on, has enough for its least amount
pub walk_enough : (master : ℕ) (links : List (ℕ × ℕ)) (amounts : List ℕ) (node : ℕ) (path : List ℕ) (end begin by : ℕ) → IsBackWalk master links amounts node path end →
    length amounts ≡ length links → begin ≤ length path → ((place : ℕ) → place < length (drop begin path) → by ≤ get_or amounts (get_or (drop begin path) place 0) 0) → IsEnough amounts (drop begin path) by
walk_enough master links amounts node path end begin by w e l least =
    enough_along amounts (drop begin path) by
    (λ i k. (at _ _ (get_or-drop begin path i 0) (w.firsts (begin + i) (later i k)).inside, least i k))
    (λ i j k m f. same i j (w.differ (begin + i) (begin + j) (later i k) (later j m)
    (ap (λ x. (link_at links x).1) (sym (get_or-drop begin path i 0) ∙ f ∙ get_or-drop begin path j 0))))
  where
    later : (i : ℕ) → i < length (drop begin path) → begin + i < length path
    later i k = omega (arith, length-drop begin path)

    at : (a b : ℕ) → a ≡ b → b < length links → a < length amounts
    at a b p q = omega (arith, e)

    same : (i j : ℕ) → begin + i ≡ begin + j → i ≡ j
    same i j f = omega arith
