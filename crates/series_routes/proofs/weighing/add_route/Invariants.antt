use Rattle.std.proofs.Common.{◌≡◌, ℕ, ◌+◌, ◌*◌, ◌<◌, length, take, count_by, get_or, nat_eq}
use Rattle.series_routes.proofs.weighing.add_route.Given as goal

abbrev pub invariant-loop-link : goal.invariant-loop-link
invariant-loop-link l = record {
  size : length l.loads ≡ 128;
  loads : (link : ℕ) → link < 128 → get_or l.loads link 0 ≡ get_or l.fn.loads link 0 + count_by (nat_eq link) (take l.link-index l.route.links) * l.route.count;
}
