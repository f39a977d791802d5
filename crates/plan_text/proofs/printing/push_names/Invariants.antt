use Rattle.std.proofs.Common.{◌≡◌, ◌++◌, drop, string_bytes}
use Rattle.period_table.specs.Tables.{IsWalk, nodes_on}
use Rattle.plan_text.specs.Texts.{names_text}
use Rattle.plan_text.proofs.printing.push_names.Given as goal

abbrev pub invariant-loop-link : goal.invariant-loop-link
invariant-loop-link l = record {
  walk : IsWalk l.timed (drop l.link-index l.links) l.end;
  rest : string_bytes l.out ++ names_text l.timed (nodes_on l.timed (drop l.link-index l.links) l.end) ≡ string_bytes l.fn.out ++ names_text l.timed (nodes_on l.timed l.links l.end);
}
