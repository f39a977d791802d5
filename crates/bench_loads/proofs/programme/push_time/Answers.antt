use Rattle.std.proofs.Common.{rules, sym, subst, SFits}
use Rattle.std.specs.Int.{w128}
use Rattle.std.proofs.lemmas.Int.{to_z-of_z}
use Rattle.bench_loads.specs.Chains.{IsChain}
use Rattle.bench_loads.proofs.Pushes.{time_pushed, time_row}
use Rattle.bench_loads.proofs.programme.push_time.Goals as goal

pub returns-clause-chain : goal.returns-clause-chain
returns-clause-chain c =
    let fits : SFits w128 c.time_of.result = search rules in
    let time = c.time_of.ensures in
    let pushed = rw (to_z-of_z w128 c.time_of.result fits, c.requires.next) at c.in_ok-push_row.ensures in
    let left = rw c.requires.next at c.requires.left in
    subst (IsChain c.args.workers) (sym pushed)
    (time_pushed c.args.workers c.args.rows.now c.time_of.result c.requires.chain (time_row c.args.workers _ c.time_of.result left time.least time.most) time.least left)
