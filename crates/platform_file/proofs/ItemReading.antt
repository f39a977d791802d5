-- Reading the items of an array, one after another.
use Rattle.std.proofs.Common.{◌≡◌, ℕ, List, ◌++◌, drop, Option, option_map}
use Rattle.toml.specs.Data.{Data}
use Rattle.toml.specs.View.{items_view}
use Rattle.toml.specs.declared.value.Value.{Value}
use Rattle.platform_file.specs.Documents.{all_of}

-- what has been read, followed by the reading of what is left, is the reading of all
abbrev pub IsReadSoFar : {A : Type 0} → (Data → Option A) → List Value → ℕ → List A → Type 0
IsReadSoFar read values i done = all_of read (items_view values) ≡ option_map (λ rest. done ++ rest) (all_of read (items_view (drop i values)))
