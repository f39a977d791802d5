-- Flows: amounts on links that conserve what the nodes don't keep.
use Rattle.std.specs.Prelude.{◌≡◌, ℕ, ◌+◌, ◌^◌, ◌<◌, ◌≤◌, ◌≢◌, Bool, cond, nat_eq, List, [], ◌∷◌, length, slice_index, slice_index_or}
use Rattle.flow_routes.specs.declared.flow.Flow.{Flow}

-- the link of a number, by its sender and its receiver
abbrev pub link_at : List (ℕ × ℕ) → ℕ → ℕ × ℕ
link_at links k = slice_index_or links k (0, 0)

-- the amounts of the links that pass a test
abbrev pub passing : ((ℕ × ℕ) → Bool) → List (ℕ × ℕ) → List ℕ → ℕ
passing test [] amounts = 0
passing test (l ∷ ls) [] = 0
passing test (l ∷ ls) (a ∷ rest) = cond (test l) a 0 + passing test ls rest

-- the link enters the node
abbrev pub enters : ℕ → (ℕ × ℕ) → Bool
enters node link = nat_eq link.1 node

-- the link leaves the node
abbrev pub leaves : ℕ → (ℕ × ℕ) → Bool
leaves node link = nat_eq link.0 node

-- what enters a node but the master covers its demand and what leaves it
abbrev pub IsKept : ℕ → List (ℕ × ℕ) → List ℕ → (ℕ → ℕ) → Type 0
IsKept master links amounts demand =
    (node : ℕ) → node ≢ master → demand node + passing (leaves node) links amounts ≤ passing (enters node) links amounts

-- a demand of one node alone
abbrev pub only : ℕ → ℕ → ℕ → ℕ
only node demand v = cond (nat_eq node v) demand 0

-- both ends of each link exist
abbrev pub LinksExist : List (ℕ × ℕ) → ℕ → Type 0
LinksExist links nodes = (k : ℕ) → k < length links → ((link_at links k).0 < nodes) × ((link_at links k).1 < nodes)

-- an amount for each link, fewer than 2^32 of them, a demand for each node, ends and a master that exist, and conservation
pub record IsFlow (f : Flow) : Type 0 where
  pub amounts : length f.amounts ≡ length f.links
  pub demands : length f.demands ≡ f.nodes
  pub few_links : length f.links < 2 ^ 32
  pub master : f.master < f.nodes
  pub exist : LinksExist f.links f.nodes
  pub kept : IsKept f.master f.links f.amounts (slice_index f.demands)
