-- The ruled choice of routes, round by round.
use Rattle.std.specs.Prelude.{◌≡◌, ℕ, zero, suc, ◌-◌, ◌<◌, ◌≢◌, ◌⊎◌, min, List, [], ◌∷◌, ◌++◌, length, drop, reverse, slice_index}
use Rattle.flow_routes.specs.Walks.{IsBackWalk, IsLeastOn, node_on, taken_along}
use Rattle.flow_routes.specs.declared.flow.Flow.{Flow}
use Rattle.flow_routes.specs.declared.flow.Route.{Route}

-- a round that comes to the master: the route is the walk turned round, and takes the least of the demand and the amounts on it
pub record IsRouteRound (master kind : ℕ) (links : List (ℕ × ℕ)) (amounts : List ℕ) (demand node : ℕ) (route : Route) (left : List ℕ) : Type 0 where
  pub path : List ℕ
  pub walk : IsBackWalk master links amounts node path master
  pub turned : route.links ≡ reverse path
  pub ends : route.end ≡ node
  pub same_kind : route.kind ≡ kind
  pub least : ℕ
  pub is_least : IsLeastOn amounts path least
  pub count : route.count ≡ min least demand
  pub taken : left ≡ taken_along amounts path route.count

-- a round that comes to a node on its walk: the links of that cycle lose their least amount
pub record IsCycleRound (master : ℕ) (links : List (ℕ × ℕ)) (amounts : List ℕ) (node : ℕ) (left : List ℕ) : Type 0 where
  pub path : List ℕ
  pub end : ℕ
  pub walk : IsBackWalk master links amounts node path end
  pub begin : ℕ
  pub inside : begin < length path
  pub met : node_on links path begin ≡ end
  pub least : ℕ
  pub is_least : IsLeastOn amounts (drop begin path) least
  pub taken : left ≡ taken_along amounts (drop begin path) least

-- a route's round and what follows it
pub record IsRouteStep (master kind : ℕ) (links : List (ℕ × ℕ)) (node : ℕ) (amounts : List ℕ) (demand : ℕ) (routes : List Route) (follows : List ℕ → ℕ → List Route → Type 0) : Type 0 where
  pub route : Route
  pub left : List ℕ
  pub rest : List Route
  pub first : routes ≡ route ∷ rest
  pub round : IsRouteRound master kind links amounts demand node route left
  pub more : follows left (demand - route.count) rest

-- a cycle's round and what follows it
pub record IsCycleStep (master : ℕ) (links : List (ℕ × ℕ)) (node : ℕ) (amounts : List ℕ) (demand : ℕ) (routes : List Route) (follows : List ℕ → ℕ → List Route → Type 0) : Type 0 where
  pub left : List ℕ
  pub round : IsCycleRound master links amounts node left
  pub more : follows left demand routes

-- in so many rounds a node's demand is served by these routes, which leaves the last amounts
abbrev pub AreServed : ℕ → ℕ → ℕ → List (ℕ × ℕ) → ℕ → List ℕ → List ℕ → ℕ → List Route → Type 0
AreServed zero master kind links node after amounts demand routes = (demand ≡ 0) × (routes ≡ []) × (after ≡ amounts)
AreServed (suc rounds) master kind links node after amounts demand routes =
    (0 < demand)
    × (IsRouteStep master kind links node amounts demand routes (AreServed rounds master kind links node after)
    ⊎ IsCycleStep master links node amounts demand routes (AreServed rounds master kind links node after))

-- the route without links of a master with a demand
abbrev pub own_route : ℕ → ℕ → ℕ → List Route
own_route kind node zero = []
own_route kind node (suc n) = record { links = []; end = node; count = suc n; kind = kind } ∷ []

-- a node's routes: a master's own, and another node's by some rounds
pub record IsNodeServed (master kind : ℕ) (links : List (ℕ × ℕ)) (node demand : ℕ) (amounts : List ℕ) (routes : List Route) (after : List ℕ) : Type 0 where
  pub own : node ≡ master → (routes ≡ own_route kind node demand) × (after ≡ amounts)
  pub rounds : ℕ
  pub served : node ≢ master → AreServed rounds master kind links node after amounts demand routes

-- a node's routes and those of the nodes that follow
pub record IsNodeStep (f : Flow) (kind node : ℕ) (amounts : List ℕ) (routes : List Route) (follows : List ℕ → List Route → Type 0) : Type 0 where
  pub own : List Route
  pub rest : List Route
  pub parts : routes ≡ own ++ rest
  pub after : List ℕ
  pub here : IsNodeServed f.master kind f.links node (slice_index f.demands node) amounts own after
  pub more : follows after rest

-- the routes of so many nodes from a node on, in node order
abbrev pub AreChosenFrom : ℕ → Flow → ℕ → ℕ → List ℕ → List Route → Type 0
AreChosenFrom zero f kind node amounts routes = routes ≡ []
AreChosenFrom (suc left) f kind node amounts routes = IsNodeStep f kind node amounts routes (AreChosenFrom left f kind (suc node))

-- the routes of a flow, node after node
abbrev pub AreChosen : Flow → ℕ → List Route → Type 0
AreChosen f kind routes = AreChosenFrom f.nodes f kind 0 f.amounts routes

-- the list has grown by some routes of which a fact holds
pub record HasAppended (old new : List Route) (P : List Route → Type 0) : Type 0 where
  pub own : List Route
  pub grown : new ≡ old ++ own
  pub holds : P own
