use Rattle.std.proofs.Common.{◌≡◌, ◌≤◌, ◌+◌, ◌++◌, length, drop, vec_len, vec_capacity}
use Rattle.run_text.specs.Reports.{nodes_text}
use Rattle.run_text.proofs.report.push_nodes.Given as goal

abbrev pub invariant-loop-number : goal.invariant-loop-number
invariant-loop-number l = record {
  text : l.into.items ++ nodes_text (drop l.number l.nodes) (drop l.number l.counts) ≡ l.fn.into.items ++ nodes_text l.nodes l.counts;
  len : vec_len l.into + length (nodes_text (drop l.number l.nodes) (drop l.number l.counts)) ≡ vec_len l.fn.into + length (nodes_text l.nodes l.counts);
  capacity : vec_capacity l.fn.into ≤ vec_capacity l.into;
}
