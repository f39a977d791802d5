-- Routes: simple walks from the master, with what each carries.
use Rattle.std.specs.Prelude.{◌≡◌, ℕ, ◌+◌, ◌*◌, ◌<◌, ◌≤◌, cond, nat_eq, List, [], ◌∷◌, All, length, count_by, slice_index, sum_by}
use Rattle.std.specs.List.{IsDistinct}
use Rattle.flow_routes.specs.Flows.{link_at}
use Rattle.flow_routes.specs.declared.flow.Flow.{Flow}
use Rattle.flow_routes.specs.declared.flow.Route.{Route}

-- where a walk over some links to an end begins
abbrev pub first_node : List (ℕ × ℕ) → List ℕ → ℕ → ℕ
first_node links [] end = end
first_node links (k ∷ ks) end = (link_at links k).0

-- all nodes on a walk over some links to an end
abbrev pub nodes_on : List (ℕ × ℕ) → List ℕ → ℕ → List ℕ
nodes_on links [] end = end ∷ []
nodes_on links (k ∷ ks) end = (link_at links k).0 ∷ nodes_on links ks end

-- each link exists and enters the node from which the walk goes on
abbrev pub IsWalk : List (ℕ × ℕ) → List ℕ → ℕ → Type 0
IsWalk links [] end = Unit {0}
IsWalk links (k ∷ ks) end = (k < length links) × ((link_at links k).1 ≡ first_node links ks end) × IsWalk links ks end

-- a walk from the master through different nodes to the end, by at least one task of the kind
pub record IsSimpleRoute (master kind : ℕ) (links : List (ℕ × ℕ)) (route : Route) : Type 0 where
  pub from_master : first_node links route.links route.end ≡ master
  pub walk : IsWalk links route.links route.end
  pub simple : IsDistinct nat_eq (nodes_on links route.links route.end)
  pub some : 1 ≤ route.count
  pub same_kind : route.kind ≡ kind

-- what the routes carry over a link together
abbrev pub carried : ℕ → List Route → ℕ
carried link routes = sum_by (λ route. count_by (nat_eq link) route.links * route.count) routes

-- what the routes that end at a node bring to it together
abbrev pub brought : ℕ → List Route → ℕ
brought node routes = sum_by (λ route. cond (nat_eq route.end node) route.count 0) routes

-- simple routes that meet each demand exactly, carry no more than its amount over a link, and are few
pub record AreRoutes (f : Flow) (kind : ℕ) (routes : List Route) : Type 0 where
  pub simple : All (IsSimpleRoute f.master kind f.links) routes
  pub met : (node : ℕ) → node < f.nodes → brought node routes ≡ slice_index f.demands node
  pub within : (link : ℕ) → link < length f.links → carried link routes ≤ slice_index f.amounts link
  pub few : length routes ≤ f.nodes + length f.links
