-- The keys of a table, and those of the members that it stands for.
use Rattle.std.proofs.Common.{◌≡◌, ℕ, Bool, List, [], ◌∷◌, ◌||◌, not, bytes_eq, String, BTreeMap, Global, Bor, map, string_bytes, refl, ap}
use Rattle.std.specs.List.{list_any}
use Rattle.std.specs.BTreeMap.{keys}
use Rattle.std.specs.Map.{keys_of as entry_keys}
use Rattle.toml.specs.View.{members_view, table_view}
use Rattle.toml.specs.declared.value.Value.{Value}
use Rattle.platform_file.specs.Documents.{keys_of, is_among}

some_entry : (test : List ℕ → Bool) (entries : List (String Global × Value)) →
    list_any (λ key. test (string_bytes key)) (entry_keys entries) ≡ list_any test (keys_of (members_view entries))
some_entry test [] = refl
some_entry test (entry ∷ entries) = ap (λ rest. test (string_bytes entry.0) || rest) (some_entry test entries)

pub some_key : (test : List ℕ → Bool) (table : BTreeMap (String Global) Value) →
    list_any (λ key. test (string_bytes key)) (keys table) ≡ list_any test (keys_of (table_view table))
some_key test table = some_entry test table.entries

-- some of the lent names passes where some of the names does
pub some_name : (test : List ℕ → Bool) (names : List (Bor (List ℕ))) → list_any (λ name. test name.now) names ≡ list_any test (map (λ name. name.now) names)
some_name test [] = refl
some_name test (name ∷ names) = ap (λ rest. test name.now || rest) (some_name test names)

-- the same of the keys that are none of the names
pub other_keys : (names : List (Bor (List ℕ))) (keys : List (List ℕ)) →
    list_any (λ key. not (list_any (λ name. bytes_eq key name.now) names)) keys ≡ list_any (λ key. not (is_among (map (λ name. name.now) names) key)) keys
other_keys names [] = refl
other_keys names (key ∷ keys) = rw (some_name (bytes_eq key) names, other_keys names keys) refl
