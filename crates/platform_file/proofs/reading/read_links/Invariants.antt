use Rattle.std.proofs.Common.{◌≡◌, [], length, map, drop, All}
use Rattle.std.specs.List.{IsDistinct}
use Rattle.platform_file.specs.Platform.{IsLink, same_ends}
use Rattle.toml.specs.View.{table_view}
use Rattle.platform_file.specs.Reading.{each_of, link_in}
use Rattle.platform_file.proofs.reading.read_links.Given as goal

abbrev pub invariant-loop-table : goal.invariant-loop-table
invariant-loop-table l =
    (length l.links ≡ l.table-index) × (each_of (link_in l.nodes) [] (map (λ table. table_view table.now) l.tables) ≡ each_of (link_in l.nodes) l.links (map (λ table. table_view table.now) (drop l.table-index l.tables))) × All (IsLink l.nodes) l.links × IsDistinct same_ends l.links
