-- The lanes of routes, route by route.
use Rattle.std.proofs.Common.{◌≡◌, ℕ, zero, suc, ◌+◌, ◌<◌, List, [], ◌∷◌, ◌++◌, length, drop, get_or, refl, sym, ap, ◌∙◌, arith}
use Rattle.std.proofs.Math.Seq.{drop-cons}
use Rattle.std.proofs.lemmas.List.{length-append}
use Rattle.flow_routes.specs.declared.flow.Route.{Route}
use Rattle.period_table.specs.Lanes.{LaneAt, lanes_from, lanes_of, lane_at}

abbrev none : LaneAt
none = record { link = 0; hop = 0; kind = 0; count = 0 }

length_lanes : (kind count hop : ℕ) (links : List ℕ) → length (lanes_from kind count hop links) ≡ length links
length_lanes kind count hop [] = refl
length_lanes kind count hop (link ∷ links) = ap suc (length_lanes kind count (hop + 1) links)

counts_lanes : (kind count hop : ℕ) (links : List ℕ) (rest : List LaneAt) (n : ℕ) → n < length links → (lane_at (lanes_from kind count hop links ++ rest) n).count ≡ count
counts_lanes kind count hop [] rest n l = absurd (omega arith)
counts_lanes kind count hop (link ∷ links) rest zero l = refl
counts_lanes kind count hop (link ∷ links) rest (suc n) l = counts_lanes kind count (hop + 1) links rest n (omega arith)

after_lanes : (kind count hop : ℕ) (links : List ℕ) (rest : List LaneAt) (n m : ℕ) → m ≡ length links + n → lane_at (lanes_from kind count hop links ++ rest) m ≡ lane_at rest n
after_lanes kind count hop [] rest n m e = let same : m ≡ n = omega arith in ap (lane_at rest) same
after_lanes kind count hop (link ∷ links) rest n zero e = absurd (omega arith)
after_lanes kind count hop (link ∷ links) rest n (suc m) e = after_lanes kind count (hop + 1) links rest n m (omega arith)

module _ (routes : List Route) (k : ℕ) (route : Route) (l : k < length routes) (is : route ≡ get_or routes k route) where
  abbrev rest : List LaneAt
  rest = lanes_of (drop (k + 1) routes)

  split : lanes_of (drop k routes) ≡ lanes_from route.kind route.count 0 route.links ++ rest
  split = let next : k + 1 ≡ suc k = omega arith in rw next (ap lanes_of (drop-cons routes k route l ∙ ap (λ r. r ∷ drop (suc k) routes) (sym is)))

  -- how many lanes there are from a route on
  pub lanes_left : length (lanes_of (drop k routes)) ≡ length route.links + length (lanes_of (drop (k + 1) routes))
  lanes_left = ap length split ∙ length-append (lanes_from route.kind route.count 0 route.links) rest ∙ ap (λ n. n + length rest) (length_lanes route.kind route.count 0 route.links)

  -- the route's lanes carry its count
  pub lane_carries : (n : ℕ) → n < length route.links → (lane_at (lanes_of (drop k routes)) n).count ≡ route.count
  lane_carries n inside = ap (λ lanes. (lane_at lanes n).count) split ∙ counts_lanes route.kind route.count 0 route.links rest n inside

  -- the lanes after those of the route
  pub lane_after : (n : ℕ) → lane_at (lanes_of (drop k routes)) (length route.links + n) ≡ lane_at (lanes_of (drop (k + 1) routes)) n
  lane_after n = ap (λ lanes. lane_at lanes (length route.links + n)) split ∙ after_lanes route.kind route.count 0 route.links rest n (length route.links + n) refl
