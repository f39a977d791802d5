-- The lanes of a table: each hop of each route (this project).
use Rattle.std.specs.Prelude.{ℕ, ◌+◌, List, [], ◌∷◌, ◌++◌, slice_index_or}
use Rattle.flow_routes.specs.declared.flow.Route.{Route}

-- a lane: one hop of one route, with what each batch moves over it
pub record LaneAt : Type 0 where
  pub link : ℕ
  pub hop : ℕ
  pub kind : ℕ
  pub count : ℕ

-- the lanes of a route, from a hop on
abbrev pub lanes_from : ℕ → ℕ → ℕ → List ℕ → List LaneAt
lanes_from kind count hop [] = []
lanes_from kind count hop (link ∷ links) = record { link = link; hop = hop; kind = kind; count = count } ∷ lanes_from kind count (hop + 1) links

-- the lanes, route by route and hop by hop
abbrev pub lanes_of : List Route → List LaneAt
lanes_of [] = []
lanes_of (route ∷ routes) = lanes_from route.kind route.count 0 route.links ++ lanes_of routes

-- the lane with a number
abbrev pub lane_at : List LaneAt → ℕ → LaneAt
lane_at lanes lane = slice_index_or lanes lane (record { link = 0; hop = 0; kind = 0; count = 0 })
