use Rattle.std.proofs.Common.{◌≡◌, ◌≤◌, drop, map}
use Rattle.platform_file.specs.Ticks.{unit_from}
use Rattle.platform_file.proofs.scaling.unit_of_links.Given as goal

abbrev pub invariant-loop-link : goal.invariant-loop-link
invariant-loop-link l =
    (1 ≤ l.unit) × (unit_from l.left (map (λ link. link.cost.den) l.links) ≡ unit_from l.unit (map (λ link. link.cost.den) (drop l.link-index l.links)))
