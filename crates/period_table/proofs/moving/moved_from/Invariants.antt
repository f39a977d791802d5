use Rattle.std.proofs.Common.{◌≡◌, ℕ, ◌+◌, ◌^◌, ◌<◌, length, take, get_or, min}
use Rattle.period_table.specs.Tables.{moved_over}
use Rattle.period_table.proofs.moving.moved_from.Given as goal

abbrev pub invariant-loop-slot : goal.invariant-loop-slot
invariant-loop-slot l = record {
  size : length l.moved ≡ 512;
  sums : (k : ℕ) → k < 512 → min (get_or l.moved k 0) (2 ^ 100 + 1) ≡ min (moved_over (l.first + k) (take l.slot-index l.slots)) (2 ^ 100 + 1);
}
