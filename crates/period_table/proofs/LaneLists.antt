-- No route is longer than the longest.
use Rattle.std.proofs.Common.{ℕ, zero, suc, ◌<◌, ◌≤◌, List, [], ◌∷◌, length, max, arith, get_or}
use Rattle.flow_routes.specs.declared.flow.Route.{Route}
use Rattle.period_table.specs.Tables.{longest}

pub within_longest : (routes : List Route) (k : ℕ) (d : Route) → k < length routes → length (get_or routes k d).links ≤ longest routes
within_longest [] k d l = absurd (omega arith)
within_longest (route ∷ routes) zero d l = first (length route.links) (longest routes)
  where
    first : (a b : ℕ) → a ≤ max a b
    first a b = omega arith
within_longest (route ∷ routes) (suc k) d l = let rest = within_longest routes k d (omega arith) in later _ _ _ rest
  where
    later : (a b n : ℕ) → n ≤ b → n ≤ max a b
    later a b n h = omega arith
