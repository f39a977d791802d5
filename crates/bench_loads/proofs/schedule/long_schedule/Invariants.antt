use Rattle.std.proofs.Common.{◌≡◌, ◌*◌, length}
use Rattle.bench_loads.proofs.schedule.long_schedule.Given as goal

abbrev pub invariant-loop-pair : goal.invariant-loop-pair
invariant-loop-pair l = length l.ops ≡ 2 * l.pair
