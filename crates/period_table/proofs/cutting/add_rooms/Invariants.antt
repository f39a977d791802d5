use Rattle.std.proofs.Common.{◌≡◌, ℕ, ◌+◌, ◌<◌, ◌≤◌, length, get_or}
use Rattle.period_table.proofs.cutting.add_rooms.Given as goal

abbrev pub invariant-loop-link : goal.invariant-loop-link
invariant-loop-link l = record {
  size : length l.moved ≡ 128;
  done : (link : ℕ) → link < l.link → get_or l.moved link 0 ≡ get_or l.fn.moved link 0 + get_or l.rooms link 0;
  left : (link : ℕ) → l.link ≤ link → get_or l.moved link 0 ≡ get_or l.fn.moved link 0;
}
