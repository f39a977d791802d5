-- What all routes bring to the nodes.
use Rattle.std.proofs.Common.{◌≡◌, ℕ, zero, suc, ◌+◌, ◌*◌, ◌<◌, ◌≤◌, cond, nat_eq, List, [], ◌∷◌, All, sum_by, sym, ap, ◌∙◌, arith}
use Rattle.std.proofs.lemmas.Bool.Decides.{nat_tests}
use Rattle.std.proofs.lemmas.List.Elements.{All-head, All-tail}
use Rattle.std.proofs.lemmas.List.Sums.{sum_by-cons}
use Rattle.flow_routes.specs.Routes.{brought}
use Rattle.flow_routes.specs.declared.flow.Route.{Route}
use Rattle.programme_rows.specs.Listings.{total_below}
use Rattle.programme_rows.proofs.Totals.{no_total, same_total, total_plus, one_total}

-- ---- sums

pub total_times : (n : ℕ) (f : ℕ → ℕ) (b : ℕ) → total_below n (λ k. f k * b) ≡ total_below n f * b
total_times zero f b = omega arith
total_times (suc n) f b = let before = total_times n f b in omega (arith, before)

pub total_within : (n : ℕ) (f : ℕ → ℕ) (b : ℕ) → ((k : ℕ) → k < n → f k ≤ b) → total_below n f ≤ n * b
total_within zero f b h = omega arith
total_within (suc n) f b h = let before = total_within n f b (λ k l. h k (omega arith)) in let last = h n (omega arith) in omega (arith, before, last)

-- the same total, with the numbers compared the other way round
one_end : (n e c : ℕ) → e < n → total_below n (λ k. cond (nat_eq e k) c 0) ≡ c
one_end n e c l = same_total n (λ k. cond (nat_eq e k) c 0) (λ k. cond (nat_eq k e) c 0) (λ k h. ap (λ b. cond b c 0) (turned e k)) ∙ one_total n e c l
  where
    turned : (a b : ℕ) → nat_eq a b ≡ nat_eq b a
    turned a b = grind (arith, nat_tests)

-- all routes bring their tasks to the nodes
pub all_brought : (n : ℕ) (routes : List Route) → All (λ (route : Route). route.end < n) routes → sum_by (λ (route : Route). route.count) routes ≡ total_below n (λ node. brought node routes)
all_brought n [] inside = sym (no_total n)
all_brought n (route ∷ routes) inside =
    let first = one_end n route.end route.count (All-head (λ (r : Route). r.end < n) route routes inside) in
    let rest = all_brought n routes (All-tail (λ (r : Route). r.end < n) route routes inside) in
    joined _ _ _ _ _ _ _ (sum_by-cons (λ (r : Route). r.count) route routes)
    (same_total n (λ node. brought node (route ∷ routes)) (λ node. cond (nat_eq route.end node) route.count 0 + brought node routes) (λ node l. sum_by-cons (λ (r : Route). cond (nat_eq r.end node) r.count 0) route routes))
    (total_plus n (λ node. cond (nat_eq route.end node) route.count 0) (λ node. brought node routes)) first rest
  where
    joined : (a c b d v w u : ℕ) → a ≡ c + b → d ≡ v → v ≡ w + u → w ≡ c → b ≡ u → a ≡ d
    joined a c b d v w u e f g h i = omega (arith, e, f, g, h, i)
