use Rattle.std.proofs.Common.{ℕ, List, ◌++◌, map, drop}
use Rattle.plan_text.specs.Walks.{IsNamedWalk}
use Rattle.plan_text.proofs.walks.walk_over.Given as goal

abbrev pub invariant-loop-name : goal.invariant-loop-name
invariant-loop-name l = record {
  there : (rest : List ℕ) (end : ℕ) → IsNamedWalk l.timed l.at (map (λ name. name.now) (drop l.name-index l.names)) rest end → IsNamedWalk l.timed l.start (map (λ name. name.now) l.names) (l.links ++ rest) end;
  back : (walk : List ℕ) (end : ℕ) → IsNamedWalk l.timed l.start (map (λ name. name.now) l.names) walk end → (rest : List ℕ) × IsNamedWalk l.timed l.at (map (λ name. name.now) (drop l.name-index l.names)) rest end;
}
