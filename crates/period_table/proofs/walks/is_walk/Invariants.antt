use Rattle.std.proofs.Common.{◌≡◌, drop}
use Rattle.period_table.specs.Tables.{IsWalk, first_node}
use Rattle.period_table.proofs.walks.is_walk.Given as goal

abbrev pub invariant-loop-k : goal.invariant-loop-k
invariant-loop-k l = record {
  next : l.next ≡ first_node l.timed (drop l.k l.links) l.end;
  walk : IsWalk l.timed (drop l.k l.links) l.end;
}
