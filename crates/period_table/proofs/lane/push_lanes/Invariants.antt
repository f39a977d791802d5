use Rattle.std.proofs.Common.{◌≡◌, ◌++◌, drop}
use Rattle.period_table.specs.Lanes.{lanes_from}
use Rattle.period_table.proofs.lane.push_lanes.Given as goal

abbrev pub invariant-loop-link : goal.invariant-loop-link
invariant-loop-link l = record {
  hop : l.hop ≡ l.link-index;
  rest : l.out ++ lanes_from l.route.kind l.route.count l.hop (drop l.link-index l.route.links) ≡ l.fn.out ++ lanes_from l.route.kind l.route.count 0 l.route.links;
}
