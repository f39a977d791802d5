-- Files and a sink in memory, which fail the calls that they are told to fail.
use Rattle.std.specs.Prelude.{◌≡◌, ℕ, Bool, List, [], ◌∷◌, Option, Some, cond, nat_eq, bytes_eq}
use Rattle.std.specs.List.{list_any}
use Rattle.outside_io.specs.Faults.{raised}
use Rattle.outside_io.specs.Files.{Told, absent, contents, FilesView}
use Rattle.outside_io.specs.Sinks.{SinkView}

-- all of files in memory: what they contain, which calls fail, and where the reading stands
pub record MemoryFilesView : Type 0 where
  -- names with what each contains; of two entries of one name the first counts
  pub entries : List (List ℕ × List ℕ)
  -- the numbers of the calls that fail
  pub failing : List ℕ
  -- how many opens and reads there were
  pub calls : ℕ
  -- what the current file contains
  pub current : Option (List ℕ)
  pub taken : ℕ
  pub ready : Bool
  pub faults : ℕ
  pub opens : ℕ

-- what the entries tell of a name
abbrev pub told_by : List (List ℕ × List ℕ) → List ℕ → Told
told_by [] name = absent
told_by (entry ∷ entries) name = cond (bytes_eq entry.0 name) (contents entry.1) (told_by entries name)

-- what they tell: everything that they contain
abbrev pub files_state : MemoryFilesView → FilesView
files_state files = record {
  held = told_by files.entries;
  current = files.current;
  taken = files.taken;
  ready = files.ready;
  faults = files.faults;
  opens = files.opens;
}

-- a call on files was counted, and what they contain and which calls fail stays
pub record IsFilesCall (before after : MemoryFilesView) : Type 0 where
  pub calls : after.calls ≡ raised before.calls 1
  pub failing : after.failing ≡ before.failing
  pub entries : after.entries ≡ before.entries

-- the call with this number is to fail
abbrev pub is_listed : ℕ → List ℕ → Bool
is_listed call failing = list_any (λ listed. nat_eq listed call) failing

-- all of a sink in memory: what was written, what it takes, and which calls fail
pub record MemorySinkView : Type 0 where
  pub written : List ℕ
  -- how many bytes a call takes at the most
  pub most : ℕ
  -- for how many more bytes there is room
  pub room : ℕ
  -- the numbers of the calls that fail
  pub failing : List ℕ
  -- how many writes there were
  pub calls : ℕ
  pub faults : ℕ

-- a call on a sink was counted, and how much it takes and which calls fail stays
pub record IsSinkCall (before after : MemorySinkView) : Type 0 where
  pub calls : after.calls ≡ raised before.calls 1
  pub failing : after.failing ≡ before.failing
  pub most : after.most ≡ before.most

-- what it tells: everything that was written
abbrev pub sink_state : MemorySinkView → SinkView
sink_state sink = record { written = Some sink.written; faults = sink.faults }
