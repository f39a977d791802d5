use Rattle.std.proofs.Common.{sym, subst}
use Rattle.std.specs.Int.{w128}
use Rattle.std.proofs.lemmas.Int.{to_z-of_z}
use Rattle.linear_program.specs.Programmes.{RowView}
use Rattle.bench_loads.specs.Chains.{IsChain}
use Rattle.bench_loads.proofs.Pushes.{behind_pushed}
use Rattle.bench_loads.proofs.programme.push_behind.Goals as goal

pub returns-clause-chain : goal.returns-clause-chain
returns-clause-chain c =
    let row : RowView = record { cells = c.args.cells.now; rhs = c.args.rhs } in
    let pushed = rw (to_z-of_z w128 c.args.rhs c.ranges.rhs) at c.in_ok-push_row.ensures in
    subst (IsChain c.args.workers) (sym pushed) (behind_pushed c.args.workers c.args.rows.now row c.requires.chain c.requires.row c.requires.behind)
