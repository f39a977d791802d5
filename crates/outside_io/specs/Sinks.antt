-- What is known of an object that takes bytes.
use Rattle.std.specs.Prelude.{◌≡◌, ℕ, ◌<◌, ◌≤◌, List, ◌++◌, length, take, Option, option_map}
use Rattle.outside_io.specs.Faults.{Rose}

-- what is known of the sink at a time
pub record SinkView : Type 0 where
  -- what was written, where it is told
  pub written : Option (List ℕ)
  -- how many calls have failed
  pub faults : ℕ

-- the bytes were written after what stood there
abbrev pub Appends : SinkView → List ℕ → SinkView → Type 0
Appends before bytes after = after.written ≡ option_map (λ old. old ++ bytes) before.written

-- a prefix of the bytes was taken, at least one byte where there is one
pub record IsWritten (before : SinkView) (bytes : List ℕ) (count : ℕ) (after : SinkView) : Type 0 where
  pub within : count ≤ length bytes
  pub some : 0 < length bytes → 0 < count
  pub appends : Appends before (take count bytes) after
  pub faults : after.faults ≡ before.faults

-- nothing was taken
pub record IsNotWritten (before after : SinkView) : Type 0 where
  pub written : after.written ≡ before.written
  pub cause : Rose before.faults after.faults
  pub never_falls : before.faults ≤ after.faults

-- all of the bytes were written, and no call failed
pub record IsWholeWritten (before : SinkView) (bytes : List ℕ) (after : SinkView) : Type 0 where
  pub appends : Appends before bytes after
  pub faults : after.faults ≡ before.faults

-- a call failed, and a prefix of the bytes was written
pub record IsCutOff (before : SinkView) (bytes : List ℕ) (after : SinkView) : Type 0 where
  pub prefix : (count : ℕ) × Appends before (take count bytes) after
  pub cause : Rose before.faults after.faults
  pub never_falls : before.faults ≤ after.faults
