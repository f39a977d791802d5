use Rattle.std.proofs.Common.{◌≡◌, ◌++◌, drop, map}
use Rattle.actor_programs.specs.Programs.{runs_of}
use Rattle.actor_programs.proofs.gathering.all_runs.Given as goal

abbrev pub invariant-loop-actor : goal.invariant-loop-actor
invariant-loop-actor l = l.out ++ map (runs_of l.table) (drop l.actor-index l.actors) ≡ map (runs_of l.table) l.actors
