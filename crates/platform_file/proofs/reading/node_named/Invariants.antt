use Rattle.std.proofs.Common.{◌≡◌, drop, bytes_eq}
use Rattle.std.specs.List.{position_from}
use Rattle.platform_file.specs.Reading.{node_named}
use Rattle.platform_file.proofs.reading.node_named.Given as goal

abbrev pub invariant-loop-node : goal.invariant-loop-node
invariant-loop-node l =
    (l.number ≡ l.node-index) × (node_named l.nodes l.name ≡ position_from (λ node. bytes_eq node.name l.name) l.number (drop l.node-index l.nodes))
