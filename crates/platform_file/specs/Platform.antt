-- Platforms: a directed graph of nodes, some of which compute, and of links with costs.
-- Source: the platform graphs of Beaumont, Legrand and Robert's papers on steady-state scheduling.
use Rattle.std.specs.Prelude.{◌≡◌, ℕ, ◌<◌, ◌≤◌, ◌≢◌, Bool, true, ◌&&◌, ◌||◌, List, length, All, Option, nat_eq, nat_le, IfSome, bytes_eq}
use Rattle.std.specs.List.{IsDistinct, list_all}
use Rattle.ratio_core.specs.Fraction.{Fraction}
use Rattle.ratio_core.specs.Texts.{HasSmallParts}

-- a node, with the time units that a task takes there where it computes
pub record NodeView : Type 0 where
  pub name : List ℕ
  pub time : Option Fraction

-- a link, with the time units that a task or message takes over it
pub record LinkView : Type 0 where
  pub from : ℕ
  pub to : ℕ
  pub cost : Fraction

-- nodes and links by their numbers in the file; the master holds the tasks, and each target wants messages of its own kind
pub record PlatformView : Type 0 where
  pub nodes : List NodeView
  pub links : List LinkView
  pub master : ℕ
  pub targets : List ℕ

-- the node holds as many tasks and messages as are wanted
abbrev pub is_master : PlatformView → ℕ → Bool
is_master p node = nat_eq node p.master

-- the number of the master, as the node from which routes begin
abbrev pub master_of : PlatformView → ℕ
master_of p = p.master

-- an ASCII letter or digit, `_`, `-` or `.`
abbrev pub is_name_byte : ℕ → Bool
is_name_byte b =
    (nat_le 48 b && nat_le b 57) || ((nat_le 65 b && nat_le b 90) || ((nat_le 97 b && nat_le b 122) || (nat_eq b 95 || (nat_eq b 45 || nat_eq b 46))))

-- a name has from 1 to 32 such bytes
abbrev pub is_name : List ℕ → Bool
is_name name = nat_le 1 (length name) && (nat_le (length name) 32 && list_all is_name_byte name)

-- the node has a name, and a time where it computes
pub record IsNode (node : NodeView) : Type 0 where
  pub named : is_name node.name ≡ true
  pub time : IfSome node.time HasSmallParts

-- both nodes have one name
abbrev pub same_name : NodeView → NodeView → Bool
same_name node other = bytes_eq node.name other.name

-- the link joins two of the nodes
pub record IsLink (nodes : List NodeView) (link : LinkView) : Type 0 where
  pub leaves : link.from < length nodes
  pub enters : link.to < length nodes
  pub apart : link.from ≢ link.to
  pub cost : HasSmallParts link.cost

-- both links lead from one node to one other
abbrev pub same_ends : LinkView → LinkView → Bool
same_ends link other = nat_eq link.from other.from && nat_eq link.to other.to

-- the target is a node, and not the master
pub record IsTarget (nodes : List NodeView) (master target : ℕ) : Type 0 where
  pub exists : target < length nodes
  pub no_master : target ≢ master

-- what a platform file may say
pub record IsPlatform (p : PlatformView) : Type 0 where
  pub few_nodes : length p.nodes ≤ 32
  pub few_links : length p.links ≤ 128
  pub few_targets : length p.targets ≤ 8
  pub nodes : All IsNode p.nodes
  pub names_differ : IsDistinct same_name p.nodes
  pub a_master : p.master < length p.nodes
  pub links : All (IsLink p.nodes) p.links
  pub links_differ : IsDistinct same_ends p.links
  pub targets : All (IsTarget p.nodes p.master) p.targets
  pub targets_differ : IsDistinct nat_eq p.targets
