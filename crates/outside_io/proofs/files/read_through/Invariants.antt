use Rattle.std.proofs.Common.{length, ◌-◌, ◌+◌, ◌≡◌, ◌≤◌, take, IfSome, vec_len}
use Rattle.outside_io.specs.Files.{SameFile}
use Rattle.outside_io.proofs.files.read_through.Given as goal

abbrev pub invariant-loop-bytes : goal.invariant-loop-bytes
invariant-loop-bytes g l = record {
  same : SameFile (g.F.Files.state l.initial.files) (g.F.Files.state l.files);
  faults : (g.F.Files.state l.files).faults ≡ (g.F.Files.state l.initial.files).faults;
  taken : (g.F.Files.state l.files).taken ≡ vec_len l.bytes;
  within : vec_len l.bytes ≤ l.most + 1;
  read : IfSome (g.F.Files.state l.initial.files).current (λ file. (l.bytes.items ≡ take (vec_len l.bytes) file) × (vec_len l.bytes ≤ length file));
}

abbrev pub decreases-loop-bytes : goal.decreases-loop-bytes
decreases-loop-bytes g l = (l.most + 1) - vec_len l.bytes
