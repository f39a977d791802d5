use Rattle.std.proofs.Common.{◌≡◌, map, drop}
use Rattle.outside_io.specs.Memory.{told_by}
use Rattle.outside_io.specs.Entries.{entry_view}
use Rattle.outside_io.proofs.memory_files.place_of.Given as goal

abbrev pub invariant-loop-place : goal.invariant-loop-place
invariant-loop-place l = told_by (map entry_view l.entries) l.name ≡ told_by (map entry_view (drop l.place l.entries)) l.name
