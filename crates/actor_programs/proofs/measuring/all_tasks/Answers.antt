use Rattle.std.proofs.Common.{rules, ◌≡◌, ◌-◌, ◌%◌, min, arith}
use Rattle.actor_programs.proofs.Small.{in_all}
use Rattle.actor_programs.proofs.measuring.all_tasks.Goals as goal

pub returns : goal.returns
returns c =
    let e = in_all c.args.tasks c.args.chunks c.args.offset c.args.count c.requires.some c.requires.within in
    let m : c.min.result ≡ min ((c.args.chunks % c.args.tasks) - c.args.offset) c.args.count = search rules in
    rw c.from-chunks.ensures (omega (arith, e, m))
