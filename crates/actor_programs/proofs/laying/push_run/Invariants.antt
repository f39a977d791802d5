use Rattle.std.proofs.Common.{◌≡◌, ◌++◌, filter, nat_lt}
use Rattle.std.specs.List.{flat_map, range_with_len}
use Rattle.actor_programs.specs.Runs.{task_events}
use Rattle.actor_programs.proofs.laying.push_run.Given as goal

abbrev pub invariant-loop-left : goal.invariant-loop-left
invariant-loop-left l =
    l.out ++ flat_map (task_events l.actor l.run) (filter (λ t. nat_lt t l.chunks) (range_with_len l.task l.left))
    ≡ l.fn.out ++ flat_map (task_events l.actor l.run) (filter (λ t. nat_lt t l.chunks) (range_with_len l.first l.run.count))

abbrev pub decreases-loop-left : goal.decreases-loop-left
decreases-loop-left l = l.left
