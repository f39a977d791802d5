-- Walks backward from a node, each time over the first link with amount left.
use Rattle.std.specs.Prelude.{◌≡◌, ℕ, ◌+◌, ◌-◌, ◌<◌, ◌≤◌, ◌≢◌, Bool, false, true, cond, List, [], ◌∷◌, length, slice_index, slice_index_or, slice_set, not, count_by}
use Rattle.flow_routes.specs.Flows.{passing, link_at}

-- the links lead backward from a node to a start
abbrev pub LeadsBack : List (ℕ × ℕ) → ℕ → List ℕ → ℕ → Type 0
LeadsBack links node [] start = node ≡ start
LeadsBack links node (k ∷ ks) start = ((link_at links k).1 ≡ node) × LeadsBack links (link_at links k).0 ks start

-- the node that a link of a walk enters
abbrev pub node_on : List (ℕ × ℕ) → List ℕ → ℕ → ℕ
node_on links path place = (link_at links (slice_index path place)).1

-- the link is the first that enters the node and has amount left
pub record IsFirstEntering (links : List (ℕ × ℕ)) (amounts : List ℕ) (node link : ℕ) : Type 0 where
  pub inside : link < length links
  pub enters_it : (link_at links link).1 ≡ node
  pub some : 0 < slice_index amounts link
  pub first : (earlier : ℕ) → earlier < link → (link_at links earlier).1 ≡ node → slice_index amounts earlier ≡ 0

-- a walk backward over first links, through different nodes, that ends at the master or at one of its nodes
pub record IsBackWalk (master : ℕ) (links : List (ℕ × ℕ)) (amounts : List ℕ) (node : ℕ) (path : List ℕ) (end : ℕ) : Type 0 where
  pub leads : LeadsBack links node path end
  pub firsts : (place : ℕ) → place < length path → IsFirstEntering links amounts (node_on links path place) (slice_index path place)
  pub differ : (place other : ℕ) → place < length path → other < length path → node_on links path place ≡ node_on links path other → place ≡ other
  pub no_master : (place : ℕ) → place < length path → node_on links path place ≢ master
  pub ends : end ≢ master → (place : ℕ) × (place < length path) × (node_on links path place ≡ end)

-- the least amount on the links of a walk
pub record IsLeastOn (amounts path : List ℕ) (least : ℕ) : Type 0 where
  pub at_most : (place : ℕ) → place < length path → least ≤ slice_index amounts (slice_index path place)
  pub place : ℕ
  pub inside : place < length path
  pub reached : slice_index amounts (slice_index path place) ≡ least

-- the amounts after the links of a walk have lost a number
abbrev pub taken_along : List ℕ → List ℕ → ℕ → List ℕ
taken_along amounts [] by = amounts
taken_along amounts (k ∷ ks) by = taken_along (slice_set amounts k (slice_index amounts k - by)) ks by

-- what the links of a walk that pass a test lose together
abbrev pub lost : ((ℕ × ℕ) → Bool) → List (ℕ × ℕ) → List ℕ → ℕ → ℕ
lost test links [] by = 0
lost test links (k ∷ ks) by = cond (test (link_at links k)) by 0 + lost test links ks by

-- each link of the walk has the number to lose, one after another
abbrev pub IsEnough : List ℕ → List ℕ → ℕ → Type 0
IsEnough amounts [] by = Unit {0}
IsEnough amounts (k ∷ ks) by = (k < length amounts) × (by ≤ slice_index amounts k) × IsEnough (slice_set amounts k (slice_index amounts k - by)) ks by

-- the node is on the walk
abbrev pub is_marked : List Bool → ℕ → Bool
is_marked marked node = slice_index_or marked node false

-- the nodes that are not on the walk
unfoldable pub unmarked : List Bool → ℕ
unmarked marked = count_by not marked

-- what is left on all links together
abbrev pub left_over : List (ℕ × ℕ) → List ℕ → ℕ
left_over links amounts = passing (λ l. true) links amounts

-- different links with amount left
pub record IsClear (amounts path : List ℕ) : Type 0 where
  pub any : 0 < length path
  pub inside : (place : ℕ) → place < length path → slice_index path place < length amounts
  pub some : (place : ℕ) → place < length path → 0 < slice_index amounts (slice_index path place)
  pub differ : (place other : ℕ) → place < length path → other < length path → slice_index path place ≡ slice_index path other → place ≡ other
