use Rattle.std.proofs.Common.{rules, ◌≡◌, ◌≤◌, length, All, sym, subst, arith}
use Rattle.tasking_program.specs.Columns.{columns_of, Exists}
use Rattle.tasking_program.proofs.Bounded.{columns_exist, columns_few}
use Rattle.tasking_program.proofs.columns.columns_of.Goals as goal

pub returns-clause-exist : goal.returns-clause-exist
returns-clause-exist c =
    let t = c.args.timed.now in
    let is : c.push_flows.new.columns ≡ columns_of t = search rules in
    subst (λ columns. All (Exists t) columns) (sym is) (columns_exist t)

pub returns-clause-few : goal.returns-clause-few
returns-clause-few c =
    let t = c.args.timed.now in
    let is : c.push_flows.new.columns ≡ columns_of t = search rules in
    let nodes : length t.platform.nodes ≤ 32 = search rules in
    let links : length t.platform.links ≤ 128 = search rules in
    rw is (omega (arith, columns_few t, nodes, links))
