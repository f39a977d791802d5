-- The names and contents that files in memory keep.
use Rattle.std.specs.Prelude.{ℕ, ◌≤◌, List, length, Option, MatchOption, option_map, slice_get, String, Vec, string_bytes}
use Rattle.std.specs.declared.alloc.Global.{Global}

-- a name and what it contains, as the code keeps them
abbrev pub Entry : Type 0
Entry = String Global × Vec ℕ Global

-- an entry's name and what it contains
abbrev pub entry_view : Entry → List ℕ × List ℕ
entry_view entry = (string_bytes entry.0, entry.1.items)

-- what the entry at a place contains
abbrev pub place_bytes : List Entry → ℕ → Option (List ℕ)
place_bytes entries place = option_map (λ entry. entry.1.items) (slice_get entries place)

-- so many bytes can have been taken of the current entry
abbrev pub IsTaken : List Entry → Option ℕ → ℕ → Type 0
IsTaken entries current taken = MatchOption current (Unit {0}) (λ place. MatchOption (place_bytes entries place) ⊥ (λ file. taken ≤ length file))
