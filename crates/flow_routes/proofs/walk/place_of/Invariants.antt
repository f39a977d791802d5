use Rattle.std.proofs.Common.{ℕ, ◌<◌, ◌≢◌, ◌-◌, length}
use Rattle.flow_routes.specs.Walks.{node_on}
use Rattle.flow_routes.proofs.walk.place_of.Given as goal

abbrev pub invariant-loop-place : goal.invariant-loop-place
invariant-loop-place l = (j : ℕ) → j < l.place → node_on l.links l.path j ≢ l.node

abbrev pub decreases-loop-place : goal.decreases-loop-place
decreases-loop-place l = length l.path - l.place
