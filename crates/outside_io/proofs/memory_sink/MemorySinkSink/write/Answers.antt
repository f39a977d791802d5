use Rattle.std.proofs.lemmas.Grind.{common_steps}
use Rattle.std.proofs.Common.{rules, arith, refl, inl, inr}
use Rattle.outside_io.proofs.memory_sink.MemorySinkSink.write.Goals as goal
use Rattle.outside_io.proofs.memory_sink.MemorySinkSink.write.Goals.{then-contains-via-then-contains, then-contains-via-else-contains+then-not-is_empty}

pub returns-then-contains-clause-exact : goal.returns-then-contains-clause-exact
returns-then-contains-clause-exact c = (
  λ _. elim c.then-contains.branch [
    | then-contains-via-then-contains w ↦ inl (search rules)
    | then-contains-via-else-contains+then-not-is_empty w ↦ inr (search rules)
  ],
  λ _. refl,
)

pub unreachable-requires : goal.unreachable-requires
unreachable-requires c = first_of (search rules, grind (arith, common_steps))

pub returns-clause-count : goal.returns-clause-count
returns-clause-count c = first_of (search rules, grind (arith, common_steps))

pub returns-then-contains-clause-call : goal.returns-then-contains-clause-call
returns-then-contains-clause-call c = first_of (search rules, grind (arith, common_steps))

pub returns-then-contains-clause-fault : goal.returns-then-contains-clause-fault
returns-then-contains-clause-fault c = first_of (search rules, grind (arith, common_steps))

pub returns-clause-room : goal.returns-clause-room
returns-clause-room c = first_of (search rules, grind (arith, common_steps))
