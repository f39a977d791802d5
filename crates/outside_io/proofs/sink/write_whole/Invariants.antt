use Rattle.std.proofs.Common.{length, ◌-◌, ◌≡◌, ◌≤◌, take}
use Rattle.outside_io.specs.Sinks.{Appends}
use Rattle.outside_io.proofs.sink.write_whole.Given as goal

abbrev pub invariant-loop-done : goal.invariant-loop-done
invariant-loop-done g l = record {
  within : l.done ≤ length l.bytes;
  appends : Appends (g.S.Sink.state l.initial.out) (take l.done l.bytes) (g.S.Sink.state l.out);
  faults : (g.S.Sink.state l.out).faults ≡ (g.S.Sink.state l.initial.out).faults;
}

abbrev pub decreases-loop-done : goal.decreases-loop-done
decreases-loop-done g l = length l.bytes - l.done
