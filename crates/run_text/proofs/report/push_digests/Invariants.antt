use Rattle.std.proofs.Common.{◌≡◌, ◌≤◌, ◌+◌, ◌++◌, length, drop, vec_len, vec_capacity}
use Rattle.run_text.specs.Reports.{digests_text}
use Rattle.run_text.proofs.report.push_digests.Given as goal

abbrev pub invariant-loop-number : goal.invariant-loop-number
invariant-loop-number l = record {
  text : l.into.items ++ digests_text l.number (drop l.number l.results) ≡ l.fn.into.items ++ digests_text 0 l.results;
  len : vec_len l.into + length (digests_text l.number (drop l.number l.results)) ≡ vec_len l.fn.into + length (digests_text 0 l.results);
  capacity : vec_capacity l.fn.into ≤ vec_capacity l.into;
}
