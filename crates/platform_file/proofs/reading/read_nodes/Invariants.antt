use Rattle.std.proofs.Common.{◌≡◌, [], length, map, drop, All}
use Rattle.std.specs.List.{IsDistinct}
use Rattle.platform_file.specs.Platform.{IsNode, same_name}
use Rattle.toml.specs.View.{table_view}
use Rattle.platform_file.specs.Reading.{each_of, node_in}
use Rattle.platform_file.proofs.reading.read_nodes.Given as goal

abbrev pub invariant-loop-table : goal.invariant-loop-table
invariant-loop-table l =
    (length l.nodes ≡ l.table-index) × (each_of node_in [] (map (λ table. table_view table.now) l.tables) ≡ each_of node_in l.nodes (map (λ table. table_view table.now) (drop l.table-index l.tables))) × All IsNode l.nodes × IsDistinct same_name l.nodes
