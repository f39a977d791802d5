-- The platform of a file's bytes, or why there is none: the first step that fails gives the fault (this project's format).
use Rattle.std.specs.Prelude.{◌≡◌, ℕ, ℤ, pos, negsuc, Bool, false, not, List, [], ◌∷◌, ◌++◌, length, Option, Some, None, Result, Ok, Err, cond, nat_eq, nat_lt, bytes_eq, codes, ok_or, option_and_then}
use Rattle.std.specs.Option.{is_some}
use Rattle.std.specs.List.{list_any, position_from}
use Rattle.ratio_core.specs.Fraction.{Fraction, whole}
use Rattle.ratio_core.specs.Texts.{ratio_of}
use Rattle.ratio_core.specs.declared.text.RatioFault.{RatioFault}
use Rattle.ratio_core.specs.declared.text.RatioFault.TheVariants.{Shape, Zero, TooLarge}
use Rattle.toml.specs.Data.{Data, string, integer, Members, get_member, as_str, as_table}
use Rattle.platform_file.specs.declared.fault.PlatformFault.{PlatformFault}
use Rattle.platform_file.specs.declared.fault.PlatformFault.TheVariants.{Limit, NotToml, BadField, TwiceNamed, Unknown, TargetIsMaster, TargetTwice, SelfLink, TwiceLinked, BadRatio, NoMemory}
use Rattle.platform_file.specs.declared.fault.Kind.TheVariants as kind
use Rattle.platform_file.specs.declared.fault.Section.{Section}
use Rattle.platform_file.specs.declared.fault.Section.TheVariants.{Top, Node, Link, Target}
use Rattle.platform_file.specs.declared.fault.Field.{Field}
use Rattle.platform_file.specs.declared.fault.Field.TheVariants as at
use Rattle.platform_file.specs.declared.fault.Place.{Place}
use Rattle.platform_file.specs.Platform.{NodeView, LinkView, PlatformView, is_name, same_ends}
use Rattle.platform_file.specs.Documents.{document_of, top_keys, node_keys, link_keys, has_other_key, text_at, integer_at, items_of, optional_items}

-- goes on with what has been read, or ends with its fault
abbrev pub and_then : {A B : Type 0} → Result A PlatformFault → (A → Result B PlatformFault) → Result B PlatformFault
and_then (Ok read) next = next read
and_then (Err fault) next = Err fault

-- reads the items in their order, each told what the earlier ones are, which come after those already told
abbrev pub each_of : {A B : Type 0} → (List B → A → Result B PlatformFault) → List B → List A → Result (List B) PlatformFault
each_of read told [] = Ok told
each_of read told (item ∷ items) = and_then (read told item) (λ one. each_of read (told ++ one ∷ []) items)

-- a place by its two parts
abbrev pub place_at : Section → Field → Place
place_at section field = record { section = section; field = field }

-- a value that is absent or of another type, or a key that isn't the format's
abbrev pub bad_field : Section → Field → PlatformFault
bad_field section field = BadField (place_at section field)

-- a name that no node has
abbrev pub unknown : Section → Field → PlatformFault
unknown section field = Unknown (place_at section field)

-- what the top table names
pub record SectionsView : Type 0 where
  pub master : List ℕ
  pub targets : List (List ℕ)
  pub nodes : List Members
  pub links : List Members

-- the version is 1
abbrev pub is_version_one : Option ℤ → Bool
is_version_one None = false
is_version_one (Some (pos n)) = nat_eq n 1
is_version_one (Some (negsuc n)) = false

-- the master's name, where the top table has no strange key and the version is the format's
abbrev pub master_name_of : Members → Result (List ℕ) PlatformFault
master_name_of document =
    cond (has_other_key top_keys document) (Err (bad_field Top at.Extra))
    (cond (not (is_version_one (integer_at (codes "version") document))) (Err (bad_field Top at.Version))
    (ok_or (text_at (codes "master") document) (bad_field Top at.Master)))

-- the targets' names; without the key there is none
abbrev pub target_names_of : Members → Result (List (List ℕ)) PlatformFault
target_names_of document = ok_or (optional_items as_str (get_member (codes "targets") document)) (bad_field Top at.Targets)

-- the tables of nodes
abbrev pub node_tables_of : Members → Result (List Members) PlatformFault
node_tables_of document = ok_or (option_and_then (items_of as_table) (get_member (codes "node") document)) (bad_field Top at.Nodes)

-- the tables of links; without the key there is none
abbrev pub link_tables_of : Members → Result (List Members) PlatformFault
link_tables_of document = ok_or (optional_items as_table (get_member (codes "link") document)) (bad_field Top at.Links)

-- the top table: no strange key, the version, the master's name, the targets' names, the tables of nodes and of links
abbrev pub sections_of : Members → Result SectionsView PlatformFault
sections_of document =
    and_then (master_name_of document) (λ master.
    and_then (target_names_of document) (λ targets.
    and_then (node_tables_of document) (λ nodes.
    and_then (link_tables_of document) (λ links.
    Ok (record { master = master; targets = targets; nodes = nodes; links = links })))))

-- no more nodes, links and targets than are allowed
abbrev pub within_limits : SectionsView → Result SectionsView PlatformFault
within_limits s =
    cond (nat_lt 32 (length s.nodes)) (Err (Limit kind.Nodes (length s.nodes)))
    (cond (nat_lt 128 (length s.links)) (Err (Limit kind.Links (length s.links)))
    (cond (nat_lt 8 (length s.targets)) (Err (Limit kind.Targets (length s.targets))) (Ok s)))

-- the fraction that a whole number is
abbrev pub whole_ratio : ℤ → Result Fraction RatioFault
whole_ratio (pos n) = cond (nat_eq n 0) (Err Zero) (cond (nat_lt 1000000 n) (Err TooLarge) (Ok (whole n)))
whole_ratio (negsuc n) = Err Shape

-- the fraction that a string or a whole number writes; no other value writes one
abbrev pub ratio_of_value : Data → Option (Result Fraction RatioFault)
ratio_of_value (string text) = Some (ratio_of text)
ratio_of_value (integer n) = Some (whole_ratio n)
ratio_of_value value = None

-- the time or cost that a value writes
abbrev pub span_of : Section → Field → Data → Result Fraction PlatformFault
span_of section field value = of_ratio (ratio_of_value value)
  where
    of_ratio : Option (Result Fraction RatioFault) → Result Fraction PlatformFault
    of_ratio None = Err (bad_field section field)
    of_ratio (Some (Ok ratio)) = Ok ratio
    of_ratio (Some (Err cause)) = Err (BadRatio (place_at section field) cause)

-- a node's name
abbrev pub name_in : ℕ → Members → Result (List ℕ) PlatformFault
name_in number table =
    and_then (ok_or (text_at (codes "name") table) (bad_field (Node number) at.Name)) (λ name.
    cond (is_name name) (Ok name) (Err (bad_field (Node number) at.Name)))

-- a node's time, where there is one
abbrev pub time_in : ℕ → Members → Result (Option Fraction) PlatformFault
time_in number table = of_value (get_member (codes "time") table)
  where
    of_value : Option Data → Result (Option Fraction) PlatformFault
    of_value None = Ok None
    of_value (Some value) = and_then (span_of (Node number) at.Time value) (λ time. Ok (Some time))

-- the number of the node with a name
abbrev pub node_named : List NodeView → List ℕ → Option ℕ
node_named nodes name = position_from (λ node. bytes_eq node.name name) 0 nodes

-- a node that has no earlier one's name
abbrev pub node_in : List NodeView → Members → Result NodeView PlatformFault
node_in earlier table =
    cond (has_other_key node_keys table) (Err (bad_field (Node (length earlier)) at.Extra))
    (and_then (name_in (length earlier) table) (λ name.
    and_then (time_in (length earlier) table) (λ time.
    cond (is_some (node_named earlier name)) (Err (TwiceNamed (length earlier))) (Ok (record { name = name; time = time })))))

-- the node that a name at a place means
abbrev pub known_node : List NodeView → Section → Field → List ℕ → Result ℕ PlatformFault
known_node nodes section field name = ok_or (node_named nodes name) (unknown section field)

-- a target that is not the master and no earlier target
abbrev pub target_in : List NodeView → ℕ → List ℕ → List ℕ → Result ℕ PlatformFault
target_in nodes master earlier name =
    and_then (known_node nodes (Target (length earlier)) at.Itself name) (λ target.
    cond (nat_eq target master) (Err (TargetIsMaster (length earlier)))
    (cond (list_any (λ other. nat_eq other target) earlier) (Err (TargetTwice (length earlier))) (Ok target)))

-- a link's cost
abbrev pub cost_in : ℕ → Members → Result Fraction PlatformFault
cost_in number table =
    and_then (ok_or (get_member (codes "cost") table) (bad_field (Link number) at.Cost)) (span_of (Link number) at.Cost)

-- a link between two nodes that no earlier one joins in this direction
abbrev pub joining : List LinkView → LinkView → Result LinkView PlatformFault
joining earlier link =
    cond (nat_eq link.from link.to) (Err (SelfLink (length earlier)))
    (cond (list_any (λ other. same_ends other link) earlier) (Err (TwiceLinked (length earlier))) (Ok link))

-- a link: no strange key, its ends' names, its cost, and then the nodes that the names mean
abbrev pub link_in : List NodeView → List LinkView → Members → Result LinkView PlatformFault
link_in nodes earlier table =
    cond (has_other_key link_keys table) (Err (bad_field (Link (length earlier)) at.Extra))
    (and_then (ok_or (text_at (codes "from") table) (bad_field (Link (length earlier)) at.From)) (λ from.
    and_then (ok_or (text_at (codes "to") table) (bad_field (Link (length earlier)) at.To)) (λ to.
    and_then (cost_in (length earlier) table) (λ cost.
    and_then (known_node nodes (Link (length earlier)) at.From from) (λ sender.
    and_then (known_node nodes (Link (length earlier)) at.To to) (λ receiver.
    joining earlier (record { from = sender; to = receiver; cost = cost })))))))

-- behind the nodes: the master, then the targets, then the links
abbrev pub platform_over : List NodeView → SectionsView → Result PlatformView PlatformFault
platform_over nodes s =
    and_then (known_node nodes Top at.Master s.master) (λ master.
    and_then (each_of (target_in nodes master) [] s.targets) (λ targets.
    and_then (each_of (link_in nodes) [] s.links) (λ links.
    Ok (record { nodes = nodes; links = links; master = master; targets = targets }))))

-- the nodes, then the master, then the targets, then the links
abbrev pub platform_of_sections : SectionsView → Result PlatformView PlatformFault
platform_of_sections s = and_then (each_of node_in [] s.nodes) (λ nodes. platform_over nodes s)

-- a document is a platform by its top table, the limits, and what the sections say
abbrev pub platform_of_document : Members → Result PlatformView PlatformFault
platform_of_document document = and_then (and_then (sections_of document) within_limits) platform_of_sections

-- a platform's text has at most so many bytes
abbrev pub most_bytes : ℕ
most_bytes = 1048576

-- the text is not too long, it is a document, and the document is a platform
abbrev pub platform_of : List ℕ → Result PlatformView PlatformFault
platform_of bytes =
    cond (nat_lt most_bytes (length bytes)) (Err (Limit kind.Text (length bytes)))
    (and_then (ok_or (document_of bytes) NotToml) platform_of_document)

-- the fault is the one with which reading ends; memory may run out at any time
abbrev pub IsFaultOf : {A : Type 0} → PlatformFault → Result A PlatformFault → Type 0
IsFaultOf NoMemory read = Unit {0}
IsFaultOf fault read = read ≡ Err fault
