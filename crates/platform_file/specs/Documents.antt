-- What is looked up in a TOML document.
use Rattle.std.specs.Prelude.{ℕ, ℤ, Bool, not, cond, List, [], ◌∷◌, Option, Some, None, option_map, option_and_then, bytes_eq, codes}
use Rattle.std.specs.List.{list_any}
use Rattle.std.specs.Str.{is_utf8}
use Rattle.toml.specs.Data.{Data, Items, no_items, item, Members, no_members, member, get_member, as_str, as_integer, as_array}
use Rattle.toml.specs.Parse.{parse_document}

-- the document that some bytes spell, where they are UTF-8 and TOML
abbrev pub document_of : List ℕ → Option Members
document_of bytes = cond (is_utf8 bytes) (parse_document bytes) None

-- the keys of a table
abbrev pub keys_of : Members → List (List ℕ)
keys_of no_members = []
keys_of (member key value members) = key ∷ keys_of members

-- the keys of a document
abbrev pub top_keys : List (List ℕ)
top_keys = codes "version" ∷ (codes "master" ∷ (codes "targets" ∷ (codes "node" ∷ (codes "link" ∷ []))))

-- the keys of a node's table
abbrev pub node_keys : List (List ℕ)
node_keys = codes "name" ∷ (codes "time" ∷ [])

-- the keys of a link's table
abbrev pub link_keys : List (List ℕ)
link_keys = codes "from" ∷ (codes "to" ∷ (codes "cost" ∷ []))

-- the key is one of the names
abbrev pub is_among : List (List ℕ) → List ℕ → Bool
is_among names key = list_any (λ name. bytes_eq key name) names

-- the table has a key that is none of the names
abbrev pub has_other_key : List (List ℕ) → Members → Bool
has_other_key names members = list_any (λ key. not (is_among names key)) (keys_of members)

-- the string at a key
abbrev pub text_at : List ℕ → Members → Option (List ℕ)
text_at key members = option_and_then as_str (get_member key members)

-- the whole number at a key
abbrev pub integer_at : List ℕ → Members → Option ℤ
integer_at key members = option_and_then as_integer (get_member key members)

-- what the items are, where each of them is what is asked for
abbrev pub all_of : {A : Type 0} → (Data → Option A) → Items → Option (List A)
all_of read no_items = Some []
all_of read (item value items) = option_and_then (λ one. option_map (λ rest. one ∷ rest) (all_of read items)) (read value)

-- the same of the items of an array
abbrev pub items_of : {A : Type 0} → (Data → Option A) → Data → Option (List A)
items_of read value = option_and_then (all_of read) (as_array value)

-- the same of an array that may be absent, and is then empty
abbrev pub optional_items : {A : Type 0} → (Data → Option A) → Option Data → Option (List A)
optional_items read None = Some []
optional_items read (Some value) = items_of read value
