use Rattle.std.proofs.Common.{◌≡◌, take, map, option_map}
use Rattle.platform_file.specs.Ticks.{ticks_of}
use Rattle.platform_file.proofs.scaling.times_of.Given as goal

abbrev pub invariant-loop-node : goal.invariant-loop-node
invariant-loop-node l = l.times ≡ map (λ node. option_map (ticks_of l.unit) node.time) (take l.node-index l.nodes)
