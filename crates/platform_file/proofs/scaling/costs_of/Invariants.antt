use Rattle.std.proofs.Common.{◌≡◌, take, map}
use Rattle.platform_file.specs.Ticks.{ticks_of}
use Rattle.platform_file.proofs.scaling.costs_of.Given as goal

abbrev pub invariant-loop-link : goal.invariant-loop-link
invariant-loop-link l = l.costs ≡ map (λ link. ticks_of l.unit link.cost) (take l.link-index l.links)
