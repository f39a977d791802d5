-- A walk that loses a number on all its links keeps what the nodes keep.
use Rattle.std.proofs.Common.{◌≡◌, ℕ, zero, suc, ◌+◌, ◌-◌, ◌<◌, ◌≤◌, ◌≢◌, Bool, true, false, cond, nat_eq, List, [], ◌∷◌, ◌++◌, length, drop, get_or, set, arith, refl, sym, ◌∙◌, ap, subst}
use Rattle.std.proofs.lemmas.Bool.{eq-eqb, ne_eqb}
use Rattle.std.proofs.lemmas.List.{length-set, get_or-set_other}
use Rattle.flow_routes.specs.Flows.{passing, enters, leaves, IsKept, only, link_at}
use Rattle.flow_routes.specs.Walks.{LeadsBack, taken_along, lost, IsEnough}

-- one link loses a number
pub passing-set : (test : (ℕ × ℕ) → Bool) (links : List (ℕ × ℕ)) (amounts : List ℕ) (k by : ℕ) → k < length amounts → length amounts ≡ length links → by ≤ get_or amounts k 0 →
    passing test links (set amounts k (get_or amounts k 0 - by)) + cond (test (get_or links k (0, 0))) by 0 ≡ passing test links amounts
passing-set test links [] k by l e h = absurd (omega arith)
passing-set test [] (a ∷ rest) k by l e h = absurd (omega arith)
passing-set test (x ∷ xs) (a ∷ rest) zero by l e h = go (test x)
  where
    go : (b : Bool) → cond b (a - by) 0 + passing test xs rest + cond b by 0 ≡ cond b a 0 + passing test xs rest
    go true = omega arith
    go false = omega arith
passing-set test (x ∷ xs) (a ∷ rest) (suc k) by l e h =
    more (cond (test x) a 0) _ _ _ (passing-set test xs rest k by (omega arith) (omega arith) h)
  where
    more : (a b c d : ℕ) → b + c ≡ d → a + b + c ≡ a + d
    more a b c d p = omega arith

-- all links of a walk lose a number
pub passing-taken : (test : (ℕ × ℕ) → Bool) (links : List (ℕ × ℕ)) (amounts : List ℕ) (ks : List ℕ) (by : ℕ) → length amounts ≡ length links → IsEnough amounts ks by →
    passing test links (taken_along amounts ks by) + lost test links ks by ≡ passing test links amounts
passing-taken test links amounts [] by e h = omega arith
passing-taken test links amounts (k ∷ ks) by e (inside, some, rest) =
    both _ _ _ _ _ (passing-taken test links (set amounts k (get_or amounts k 0 - by)) ks by (length-set amounts k (get_or amounts k 0 - by) ∙ e) rest)
    (passing-set test links amounts k by inside e some)
  where
    both : (a b c d f : ℕ) → a + b ≡ c → c + d ≡ f → a + (d + b) ≡ f
    both a b c d f p q = omega arith

-- along a walk what enters a node leaves it, but for the two ends
pub ends_balance : (links : List (ℕ × ℕ)) (node : ℕ) (ks : List ℕ) (start by v : ℕ) → LeadsBack links node ks start →
    lost (enters v) links ks by + cond (nat_eq start v) by 0 ≡ lost (leaves v) links ks by + cond (nat_eq node v) by 0
ends_balance links node [] start by v e = ap (λ x. 0 + cond (nat_eq x v) by 0) (sym e)
ends_balance links node (k ∷ ks) start by v (here, rest) =
    step _ _ _ _ _ _ (ends_balance links (link_at links k).0 ks start by v rest) (ap (λ x. cond (nat_eq x v) by 0) here)
  where
    step : (e s l f h n : ℕ) → e + s ≡ l + f → h ≡ n → h + e + s ≡ f + l + n
    step e s l f h n p q = omega arith

-- a route takes its count from the demand of its end
pub route_keeps : (master : ℕ) (links : List (ℕ × ℕ)) (amounts ks : List ℕ) (by node : ℕ) (before after : ℕ → ℕ) → length amounts ≡ length links → IsEnough amounts ks by → IsKept master links amounts before →
    LeadsBack links node ks master → ((v : ℕ) → v ≢ master → after v + cond (nat_eq node v) by 0 ≡ before v) → IsKept master links (taken_along amounts ks by) after
route_keeps master links amounts ks by node before after same enough kept leads demand v ne =
    served _ _ _ _ _ _ _ _ _ _ (demand v ne)
    (passing-taken (enters v) links amounts ks by same enough) (passing-taken (leaves v) links amounts ks by same enough) (ends_balance links node ks master by v leads)
    (ap (λ b. cond {A = ℕ} b by 0) (ne_eqb master v (λ e. ne (sym e)))) (kept v ne)
  where
    served : (d w x i lost_in i' o lost_out o' m : ℕ) → d + w ≡ x → i + lost_in ≡ i' → o + lost_out ≡ o' → lost_in + m ≡ lost_out + w → m ≡ 0 → x + o' ≤ i' → d + o ≤ i
    served d w x i lost_in i' o lost_out o' m p q r s t u = omega arith

-- a cycle takes nothing from a demand
pub cycle_keeps : (master : ℕ) (links : List (ℕ × ℕ)) (amounts ks : List ℕ) (by node : ℕ) (demand : ℕ → ℕ) → length amounts ≡ length links → IsEnough amounts ks by → IsKept master links amounts demand →
    LeadsBack links node ks node → IsKept master links (taken_along amounts ks by) demand
cycle_keeps master links amounts ks by node demand same enough kept leads v ne =
    still _ _ _ _ _ _ _ _ (passing-taken (enters v) links amounts ks by same enough) (passing-taken (leaves v) links amounts ks by same enough) (ends_balance links node ks node by v leads) (kept v ne)
  where
    still : (i lost_in i' o lost_out o' d x : ℕ) → i + lost_in ≡ i' → o + lost_out ≡ o' → lost_in + x ≡ lost_out + x → d + o' ≤ i' → d + o ≤ i
    still i lost_in i' o lost_out o' d x p q r s = omega arith

-- where each link that passes has nothing left, nothing passes
pub none_passing : (test : (ℕ × ℕ) → Bool) (links : List (ℕ × ℕ)) (amounts : List ℕ) → length amounts ≡ length links →
    ((j : ℕ) → j < length links → test (get_or links j (0, 0)) ≡ true → get_or amounts j 0 ≡ 0) → passing test links amounts ≡ 0
none_passing test [] amounts e h = refl
none_passing test (x ∷ xs) [] e h = refl
none_passing test (x ∷ xs) (a ∷ rest) e h = both _ _ (first (test x) (h 0 (omega arith))) (none_passing test xs rest (omega arith) (λ j l. h (suc j) (omega arith)))
  where
    both : (a b : ℕ) → a ≡ 0 → b ≡ 0 → a + b ≡ 0
    both a b p q = omega arith

    first : (b : Bool) → (b ≡ true → a ≡ 0) → cond b a 0 ≡ 0
    first true h = h refl
    first false h = refl

-- a link with amount left makes what passes positive
pub some_passing : (test : (ℕ × ℕ) → Bool) (links : List (ℕ × ℕ)) (amounts : List ℕ) (k : ℕ) → k < length links → length amounts ≡ length links →
    test (get_or links k (0, 0)) ≡ true → get_or amounts k 0 ≤ passing test links amounts
some_passing test [] amounts k l e t = absurd (omega arith)
some_passing test (x ∷ xs) [] k l e t = absurd (omega arith)
some_passing test (x ∷ xs) (a ∷ rest) zero l e t = more _ _ _ (ap (λ b. cond {A = ℕ} b a 0) t)
  where
    more : (a b c : ℕ) → b ≡ a → a ≤ b + c
    more a b c p = omega arith
some_passing test (x ∷ xs) (a ∷ rest) (suc k) l e t = more _ _ _ (some_passing test xs rest k (omega arith) (omega arith) t)
  where
    more : (a b c : ℕ) → a ≤ c → a ≤ b + c
    more a b c p = omega arith

-- links that differ and have enough each have enough one after another
pub enough_along : (amounts ks : List ℕ) (by : ℕ) → ((i : ℕ) → i < length ks → (get_or ks i 0 < length amounts) × (by ≤ get_or amounts (get_or ks i 0) 0)) →
    ((i j : ℕ) → i < length ks → j < length ks → get_or ks i 0 ≡ get_or ks j 0 → i ≡ j) → IsEnough amounts ks by
enough_along amounts [] by h apart = tt
enough_along amounts (k ∷ ks) by h apart =
    let here = h 0 (omega arith) in (
      here.0,
      here.1,
      enough_along (set amounts k (get_or amounts k 0 - by)) ks by
          (λ i l. (
            omega (arith, length-set amounts k (get_or amounts k 0 - by), (h (suc i) (omega arith)).0),
            kept i l (h (suc i) (omega arith)).1,
          ))
          (λ i j l m e. less i j (apart (suc i) (suc j) (omega arith) (omega arith) e)),
    )
  where
    less : (i j : ℕ) → suc i ≡ suc j → i ≡ j
    less i j e = omega arith

    never : (i : ℕ) → suc i ≡ zero → ⊥
    never i e = omega arith

    kept : (i : ℕ) → i < length ks → by ≤ get_or amounts (get_or ks i 0) 0 → by ≤ get_or (set amounts k (get_or amounts k 0 - by)) (get_or ks i 0) 0
    kept i l p = subst (λ x. by ≤ x) (sym (get_or-set_other amounts k (get_or ks i 0) (get_or amounts k 0 - by) 0 (λ e. never i (apart (suc i) zero (omega arith) (omega arith) e)))) p

-- the walk from a node on it
pub leads_from : (links : List (ℕ × ℕ)) (node : ℕ) (ks : List ℕ) (start k : ℕ) → k < length ks → LeadsBack links node ks start → LeadsBack links (get_or links (get_or ks k 0) (0, 0)).1 (drop k ks) start
leads_from links node [] start k l leads = absurd (omega arith)
leads_from links node (x ∷ xs) start zero l (here, rest) = (refl, rest)
leads_from links node (x ∷ xs) start (suc k) l (here, rest) = leads_from links (link_at links x).0 xs start k (omega arith) rest

-- one link more at the end of a walk
pub leads_more : (links : List (ℕ × ℕ)) (node : ℕ) (ks : List ℕ) (middle k : ℕ) → LeadsBack links node ks middle → (link_at links k).1 ≡ middle → LeadsBack links node (ks ++ k ∷ []) (link_at links k).0
leads_more links node [] middle k leads e = (e ∙ sym leads, refl)
leads_more links node (x ∷ xs) middle k (here, rest) e = (here, leads_more links (link_at links x).0 xs middle k rest e)

-- all that passes falls when a walk loses a number
pub left_over_less : (links : List (ℕ × ℕ)) (amounts ks : List ℕ) (by : ℕ) → length amounts ≡ length links → IsEnough amounts ks by → 0 < by → 0 < length ks →
    passing (λ l. true) links (taken_along amounts ks by) < passing (λ l. true) links amounts
left_over_less links amounts [] by e h some any = absurd (omega arith)
left_over_less links amounts (k ∷ ks) by e h some any = less _ _ _ (passing-taken (λ l. true) links amounts (k ∷ ks) by e h) some
  where
    less : (a b c : ℕ) → a + (by + b) ≡ c → 0 < by → a < c
    less a b c p q = omega arith

-- what is kept for a demand is kept for a lesser one
pub kept_less : (master : ℕ) (links : List (ℕ × ℕ)) (amounts : List ℕ) (more less : ℕ → ℕ) → ((v : ℕ) → less v ≤ more v) → IsKept master links amounts more → IsKept master links amounts less
kept_less master links amounts more less h kept v ne = let a = h v in let b = kept v ne in omega (arith, a, b)

-- a node with a demand has something that enters it
pub some_enters : (master : ℕ) (links : List (ℕ × ℕ)) (amounts : List ℕ) (node demand : ℕ) → IsKept master links amounts (only node demand) → node ≢ master → 0 < demand → 0 < passing (enters node) links amounts
some_enters master links amounts node demand kept ne some =
    let own : only node demand node ≡ demand = ap (λ b. cond {A = ℕ} b demand 0) (eq-eqb node node refl) in
    let h = kept node ne in
    omega (arith, own, h, some)
