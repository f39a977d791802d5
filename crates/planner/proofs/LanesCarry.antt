-- The lanes of a link carry what its routes do.
use Rattle.std.proofs.Common.{◌≡◌, ℕ, ◌+◌, ◌*◌, Bool, true, false, cond, nat_eq, List, [], ◌∷◌, count_by, refl, sym, ap, ◌∙◌, arith, inl, inr}
use Rattle.std.proofs.lemmas.Bool.Decides.{nat_tests}
use Rattle.std.proofs.lemmas.List.Sums.{sum_by-cons, sum_by-append}
use Rattle.flow_routes.specs.Routes.{carried}
use Rattle.flow_routes.specs.declared.flow.Route.{Route}
use Rattle.period_table.specs.Lanes.{LaneAt, lanes_from, lanes_of}
use Rattle.period_table.specs.Cuts.{carried_on}
use Rattle.series_routes.proofs.Walks.{turned}

route_carries : (link kind count hop : ℕ) (links : List ℕ) → carried_on link (lanes_from kind count hop links) ≡ count_by (nat_eq link) links * count
route_carries link kind count hop [] = omega arith
route_carries link kind count hop (k ∷ links) =
    both _ _ _ _ (nat_eq link k)
    (sum_by-cons (λ (lane : LaneAt). cond (nat_eq lane.link link) lane.count 0) (record { link = k; hop = hop; kind = kind; count = count }) (lanes_from kind count (hop + 1) links) ∙ rw (turned k link) refl)
    (sum_by-cons (λ one. cond (nat_eq link one) 1 0) k links) (route_carries link kind count (hop + 1) links)
  where
    both : (a b c d : ℕ) (t : Bool) → a ≡ cond t count 0 + b → c ≡ cond t 1 0 + d → b ≡ d * count → a ≡ c * count
    both a b c d true e f h = let split : c * count ≡ (1 + d) * count = ap (λ n. n * count) f in omega (arith, split, e, h)
    both a b c d false e f h = let split : c * count ≡ (0 + d) * count = ap (λ n. n * count) f in omega (arith, split, e, h)

pub lanes_carry : (link : ℕ) (routes : List Route) → carried_on link (lanes_of routes) ≡ carried link routes
lanes_carry link [] = refl
lanes_carry link (route ∷ routes) =
    sum_by-append (λ (lane : LaneAt). cond (nat_eq lane.link link) lane.count 0) (lanes_from route.kind route.count 0 route.links) (lanes_of routes)
    ∙ both _ _ _ _ (route_carries link route.kind route.count 0 route.links) (lanes_carry link routes)
    ∙ sym (sum_by-cons (λ (r : Route). count_by (nat_eq link) r.links * r.count) route routes)
  where
    both : (a b c d : ℕ) → a ≡ c → b ≡ d → a + b ≡ c + d
    both a b c d e f = omega arith
