-- The links of routes are those of the platform.
use Rattle.std.proofs.Common.{◌≡◌, ℕ, ◌+◌, ◌*◌, ◌<◌, ◌≤◌, false, cond, nat_eq, List, [], ◌∷◌, length, count_by, All, refl, ap, ◌∙◌, arith}
use Rattle.std.proofs.lemmas.Bool.Decides.{nat_tests}
use Rattle.std.proofs.lemmas.List.Sums.{sum_by-cons}
use Rattle.std.proofs.lemmas.List.Elements.{All-head, All-tail, All-cons, All-nil, All-weaker}
use Rattle.flow_routes.specs.Routes.{IsWalk, IsSimpleRoute, carried}
use Rattle.flow_routes.specs.declared.flow.Route.{Route}

-- the links of a walk exist
pub walk_inside : (links : List (ℕ × ℕ)) (ks : List ℕ) (end : ℕ) → IsWalk links ks end → All (λ k. k < length links) ks
walk_inside links [] end walk = All-nil (λ k. k < length links)
walk_inside links (k ∷ ks) end walk = All-cons (λ k. k < length links) k ks walk.0 (walk_inside links ks end walk.2)

pub routes_inside : (master kind : ℕ) (links : List (ℕ × ℕ)) (routes : List Route) → All (IsSimpleRoute master kind links) routes → All (λ route. All (λ k. k < length links) route.links) routes
routes_inside master kind links routes simple =
    All-weaker (IsSimpleRoute master kind links) (λ route. All (λ k. k < length links) route.links) (λ route r. walk_inside links route.links route.end r.walk) routes simple

-- no other link occurs
none_over : (n link : ℕ) (ks : List ℕ) → All (λ k. k < n) ks → n ≤ link → count_by (nat_eq link) ks ≡ 0
none_over n link [] inside past = refl
none_over n link (k ∷ ks) inside past =
    let here = All-head (λ k. k < n) k ks inside in
    let other : nat_eq link k ≡ false = grind (arith, nat_tests) in
    nothing _ _ _ (sum_by-cons (λ one. cond (nat_eq link one) 1 0) k ks) (rw other refl) (none_over n link ks (All-tail (λ k. k < n) k ks inside) past)
  where
    nothing : (a v b : ℕ) → a ≡ v + b → v ≡ 0 → b ≡ 0 → a ≡ 0
    nothing a v b e f g = omega arith

-- nor does it carry anything
pub carries_none : (n link : ℕ) (routes : List Route) → All (λ route. All (λ k. k < n) route.links) routes → n ≤ link → carried link routes ≡ 0
carries_none n link [] inside past = refl
carries_none n link (route ∷ routes) inside past =
    nothing _ _ _ (sum_by-cons (λ (r : Route). count_by (nat_eq link) r.links * r.count) route routes)
    (ap (λ times. times * route.count) (none_over n link route.links (All-head (λ (r : Route). All (λ k. k < n) r.links) route routes inside) past) ∙ zero_times route.count)
    (carries_none n link routes (All-tail (λ (r : Route). All (λ k. k < n) r.links) route routes inside) past)
  where
    nothing : (a v b : ℕ) → a ≡ v + b → v ≡ 0 → b ≡ 0 → a ≡ 0
    nothing a v b e f g = omega arith

    zero_times : (n : ℕ) → 0 * n ≡ 0
    zero_times n = omega arith
