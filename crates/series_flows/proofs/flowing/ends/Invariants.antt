use Rattle.std.proofs.Common.{◌≡◌, map, take}
use Rattle.series_flows.specs.Flows.{ends_of}
use Rattle.series_flows.proofs.flowing.ends.Given as goal

abbrev pub invariant-loop-link : goal.invariant-loop-link
invariant-loop-link l = l.ends ≡ map ends_of (take l.link-index l.timed.platform.links)
