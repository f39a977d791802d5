use Rattle.std.proofs.Common.{◌≡◌, [], length, map, drop, All, nat_eq}
use Rattle.std.specs.List.{IsDistinct}
use Rattle.platform_file.specs.Platform.{IsTarget}
use Rattle.platform_file.specs.Reading.{each_of, target_in}
use Rattle.platform_file.proofs.reading.read_targets.Given as goal

abbrev pub invariant-loop-name : goal.invariant-loop-name
invariant-loop-name l =
    (length l.targets ≡ l.name-index) × (each_of (target_in l.nodes l.master) [] (map (λ name. name.now) l.names) ≡ each_of (target_in l.nodes l.master) l.targets (map (λ name. name.now) (drop l.name-index l.names))) × All (IsTarget l.nodes l.master) l.targets × IsDistinct nat_eq l.targets
