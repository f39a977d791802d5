use Rattle.std.proofs.Common.{◌++◌, ◌<◌, ◌+◌, ◌-◌, append_assoc, ap, sym, ◌∙◌, filter, nat_lt}
use Rattle.std.specs.List.{flat_map, range_with_len}
use Rattle.actor_programs.specs.Runs.{task_events}
use Rattle.actor_programs.proofs.TaskSteps.{stopped, one_task}
use Rattle.actor_programs.proofs.laying.push_run.Goals as goal

pub returns-then-task-from : goal.returns-then-task-from
returns-then-task-from c =
    record { ok = stopped (task_events c.args.actor c.args.run.now) c.loop-left.out _ c.loop-left.task c.loop-left.left c.args.chunks (rw c.from.ensures at c.if-task-from.true) c.loop-left.invariant }

pub loop-left-preserved : goal.loop-left-preserved
loop-left-preserved c =
    let f = task_events c.args.actor c.args.run.now in
    let less : c.loop-left.task < c.args.chunks = rw c.from.ensures at c.if-task-from.false in
    ap (λ es. es ++ flat_map f (filter (λ t. nat_lt t c.args.chunks) (range_with_len (c.loop-left.task + 1) (c.loop-left.left - 1)))) c.in_ok-push_task.ensures.ok
    ∙ append_assoc c.loop-left.out (f c.loop-left.task) _
    ∙ ap (λ es. c.loop-left.out ++ es) (sym (one_task f c.loop-left.task c.loop-left.left c.args.chunks c.loop-left-test.true less))
    ∙ c.loop-left.invariant
