-- The split of weights into matchings that last some time each.
use Rattle.std.specs.Prelude.{◌≡◌, ℕ, suc, ◌+◌, ◌-◌, ◌*◌, ◌^◌, ◌<◌, ◌≤◌, ◌&&◌, Bool, true, cond, nat_eq, nat_lt, List, [], ◌∷◌, length, slice_index, sum_by, All, Some, ◌⊎◌}
use Rattle.std.specs.List.{list_any, slice_get}
use Rattle.std.specs.List.Sorted.{IsStrictlyIncreasing}
use Rattle.bipartite_slots.specs.Matchings.{IsFirstMatching}
use Rattle.bipartite_slots.specs.declared.weights.Edge.{Edge}
use Rattle.bipartite_slots.specs.declared.weights.Weights.{Weights}
use Rattle.bipartite_slots.specs.declared.weights.SlotPart.{SlotPart}

-- what is to be sent from one node to another
abbrev pub weight_between : List Edge → ℕ → ℕ → ℕ
weight_between edges from to = sum_by (λ e. cond (nat_eq e.from from && nat_eq e.to to) e.weight 0) edges

-- what leaves a node
abbrev pub leaving : List Edge → ℕ → ℕ
leaving edges node = sum_by (λ e. cond (nat_eq e.from node) e.weight 0) edges

-- what enters a node
abbrev pub entering : List Edge → ℕ → ℕ
entering edges node = sum_by (λ e. cond (nat_eq e.to node) e.weight 0) edges

-- the weights by sender and receiver, filled up to twice as many rows and columns so that each sums to the total
unfoldable pub padded : Weights → ℕ → ℕ → ℕ → ℕ
padded weights total row column =
    cond (nat_lt row weights.nodes)
    (cond (nat_lt column weights.nodes) (weight_between weights.edges row column) (cond (nat_eq column (weights.nodes + row)) (total - leaving weights.edges row) 0))
    (cond (nat_lt column weights.nodes) (cond (nat_eq row (weights.nodes + column)) (total - entering weights.edges column) 0)
    (weight_between weights.edges (column - weights.nodes) (row - weights.nodes)))

-- the matrix after the cells of a matching have lost a number
unfoldable pub lowered : (ℕ → ℕ → ℕ) → List ℕ → ℕ → ℕ → ℕ → ℕ
lowered cells columns by row column = cond (nat_eq (slice_index columns row) column) (cells row column - by) (cells row column)

-- the least cell of a matching
pub record IsLeastCell (size : ℕ) (cells : ℕ → ℕ → ℕ) (columns : List ℕ) (least : ℕ) : Type 0 where
  pub at_most : (row : ℕ) → row < size → least ≤ cells row (slice_index columns row)
  pub at : ℕ
  pub inside : at < size
  pub reached : cells at (slice_index columns at) ≡ least

-- the edges of a matching by their numbers, from a first number on
abbrev pub edges_from : ℕ → List Edge → List ℕ → List ℕ
edges_from number [] columns = []
edges_from number (e ∷ es) columns = cond (nat_eq (slice_index columns e.from) e.to) (number ∷ edges_from (suc number) es columns) (edges_from (suc number) es columns)

-- each part is the first perfect matching over the positive cells that the parts before it have left, and lasts as long as its least cell
abbrev pub AreChosen : ℕ → List Edge → (ℕ → ℕ → ℕ) → ℕ → List SlotPart → Type 0
AreChosen size edges cells left [] = left ≡ 0
AreChosen size edges cells left (part ∷ parts) =
    (columns : List ℕ) × IsFirstMatching size cells columns × IsLeastCell size cells columns part.duration × (part.edges ≡ edges_from 0 edges columns)
    × AreChosen size edges (lowered cells columns part.duration) (left - part.duration) parts

-- an edge is in a part
abbrev pub is_in : ℕ → SlotPart → Bool
is_in edge part = list_any (nat_eq edge) part.edges

-- no two edges of a part share a sender or a receiver
abbrev pub SharesNothing : List Edge → SlotPart → Type 0
SharesNothing edges part =
    (first second : ℕ) (one other : Edge) → slice_get edges first ≡ Some one → slice_get edges second ≡ Some other →
    is_in first part ≡ true → is_in second part ≡ true → (one.from ≡ other.from) ⊎ (one.to ≡ other.to) → first ≡ second

-- the parts list edges that exist, each once; they have no clash, take the total together, give each edge its weight, and are few
pub record AreParts (weights : Weights) (total : ℕ) (parts : List SlotPart) : Type 0 where
  pub exist : All (λ part. All (λ edge. edge < length weights.edges) part.edges) parts
  pub ascending : All (λ part. IsStrictlyIncreasing part.edges) parts
  pub separate : All (SharesNothing weights.edges) parts
  pub lasting : All (λ part. 1 ≤ part.duration) parts
  pub whole : sum_by (λ part. part.duration) parts ≡ total
  pub served : (edge : ℕ) (e : Edge) → slice_get weights.edges edge ≡ Some e → sum_by (λ part. cond (is_in edge part) part.duration 0) parts ≡ e.weight
  pub few : length parts ≤ (2 * weights.nodes) ^ 2

-- each edge joins nodes that exist
abbrev pub Exist : Weights → Type 0
Exist weights = All (λ e. (e.from < weights.nodes) × (e.to < weights.nodes)) weights.edges

-- no two edges join the same nodes in the same direction
abbrev pub AreApart : List Edge → Type 0
AreApart edges =
    (first second : ℕ) (one other : Edge) → slice_get edges first ≡ Some one → slice_get edges second ≡ Some other → one.from ≡ other.from → one.to ≡ other.to → first ≡ second

-- no node sends or receives more than the total
pub record AreWithin (weights : Weights) (total : ℕ) : Type 0 where
  pub leave : (node : ℕ) → node < weights.nodes → leaving weights.edges node ≤ total
  pub enter : (node : ℕ) → node < weights.nodes → entering weights.edges node ≤ total
