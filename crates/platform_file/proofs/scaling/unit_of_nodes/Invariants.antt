use Rattle.std.proofs.Common.{◌≡◌, ◌≤◌, drop, flat_map, option_map, option_to_list}
use Rattle.platform_file.specs.Ticks.{unit_from}
use Rattle.platform_file.proofs.scaling.unit_of_nodes.Given as goal

abbrev pub invariant-loop-node : goal.invariant-loop-node
invariant-loop-node l =
    (1 ≤ l.unit) × (unit_from 1 (flat_map (λ node. option_to_list (option_map (λ time. time.den) node.time)) l.nodes) ≡ unit_from l.unit (flat_map (λ node. option_to_list (option_map (λ time. time.den) node.time)) (drop l.node-index l.nodes)))
