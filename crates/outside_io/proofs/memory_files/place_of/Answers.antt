use Rattle.std.proofs.Common.{◌≡◌, ◌∙◌, ℕ, ◌<◌, List, length, map, get_or, drop, true, MatchOption, string_bytes, sym, refl}
use Rattle.std.proofs.lemmas.Option.{slice_get-get_or}
use Rattle.std.proofs.lemmas.List.{drop_more}
use Rattle.std.specs.Str.{bytes_eq}
use Rattle.outside_io.specs.Files.{contents}
use Rattle.outside_io.specs.Memory.{told_by}
use Rattle.outside_io.specs.Entries.{Entry, entry_view, place_bytes}
use Rattle.outside_io.proofs.memory_files.place_of.Goals as goal

-- an entry with the name, before which there is none, tells of it
found : (entries : List Entry) (place : ℕ) (entry : Entry) (name : List ℕ) → place < length entries → get_or entries place entry ≡ entry →
    bytes_eq (string_bytes entry.0) name ≡ true → told_by (map entry_view entries) name ≡ told_by (map entry_view (drop place entries)) name →
    MatchOption (place_bytes entries place) ⊥ (λ file. told_by (map entry_view entries) name ≡ contents file)
found entries place entry name h is same sofar =
    rw (slice_get-get_or entries place entry h, is) (sofar ∙ rw (drop_more entries place entry h, is, same) refl)

pub returns-then-eq : goal.returns-then-eq
returns-then-eq c =
    found c.args.entries.now c.loop-place.place c.index-entries-place.result c.args.name.now c.loop-place-test.true (sym c.index-entries-place.is)
    (rw c.as_str.ensures.value at (sym c.eq.ensures ∙ c.if-eq.true)) c.loop-place.invariant
