use Rattle.std.proofs.Common.{◌≡◌, ℕ, ◌<◌, length, take, get_or}
use Rattle.flow_routes.specs.Routes.{carried}
use Rattle.series_routes.proofs.weighing.loads_of.Given as goal

abbrev pub invariant-loop-route : goal.invariant-loop-route
invariant-loop-route l = record {
  size : length l.loads ≡ 128;
  loads : (link : ℕ) → link < 128 → get_or l.loads link 0 ≡ carried link (take l.route-index l.routes);
}
