use Rattle.std.proofs.Common.{◌≡◌, map}
use Rattle.std.specs.List.{range_with_len}
use Rattle.actor_programs.specs.Programs.{lane_of}
use Rattle.actor_programs.proofs.lanes.lanes.Given as goal

abbrev pub invariant-loop-place : goal.invariant-loop-place
invariant-loop-place l = l.lanes ≡ map (lane_of l.timed l.table l.chunks) (range_with_len 0 l.place-index)
