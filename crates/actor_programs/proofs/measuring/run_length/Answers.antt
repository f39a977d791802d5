use Rattle.std.proofs.Common.{arith}
use Rattle.actor_programs.proofs.Small.{few_tasks, short_task, product}
use Rattle.actor_programs.proofs.measuring.run_length.Goals as goal

pub overflow_mul-result : goal.overflow_mul-result
overflow_mul-result c =
    let few = few_tasks c.args.tasks c.args.chunks c.args.run.now.offset c.args.run.now.count c.requires.some c.requires.within in
    record { fits = product _ _ _ _ c.task_length.ensures (short_task c.args.run.now) c.all_tasks.ensures (omega (arith, few, c.requires.few)) }
