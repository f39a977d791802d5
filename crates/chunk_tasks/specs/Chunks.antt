-- The chunks of some data, and their digests.
use Rattle.std.specs.Prelude.{ℕ, zero, suc, ◌+◌, ◌-◌, ◌*◌, ◌/◌, List, [], ◌∷◌, ◌++◌, length, map, min, slice_range}
use Rattle.sha2.specs.Sha256.{sha256}

-- a chunk with its number
pub record ItemView : Type 0 where
  pub id : ℕ
  pub bytes : List ℕ

-- a chunk's number with the digest of its bytes
pub record DigestedView : Type 0 where
  pub id : ℕ
  pub digest : List ℕ

-- a chunk: the bytes from its number times the size on, to the next chunk or to the end of the data
abbrev pub chunk_at : ℕ → List ℕ → ℕ → List ℕ
chunk_at size bytes number = slice_range bytes (number * size) (min ((number + 1) * size) (length bytes))

-- how many chunks there are, the last one perhaps shorter
abbrev pub chunk_count : ℕ → List ℕ → ℕ
chunk_count size bytes = (length bytes + (size - 1)) / size

-- the first chunks, numbered from 0
abbrev pub items_below : ℕ → List ℕ → ℕ → List ItemView
items_below size bytes zero = []
items_below size bytes (suc number) = items_below size bytes number ++ (record { id = number; bytes = chunk_at size bytes number } ∷ [])

-- all chunks with their numbers
abbrev pub items_of : ℕ → List ℕ → List ItemView
items_of size bytes = items_below size bytes (chunk_count size bytes)

-- all chunks
abbrev pub chunks_of : ℕ → List ℕ → List (List ℕ)
chunks_of size bytes = map (λ item. item.bytes) (items_of size bytes)

-- the digest of each chunk, in order
abbrev pub digests_of : ℕ → List ℕ → List (List ℕ)
digests_of size bytes = map sha256 (chunks_of size bytes)
