use Rattle.std.proofs.Common.{rules, ◌≡◌, ◌≤◌, length, All, sym, subst}
use Rattle.scatter_program.specs.Columns.{columns_of, Exists}
use Rattle.scatter_program.proofs.Flows.{columns_exist, columns_few}
use Rattle.scatter_program.proofs.columns.columns_of.Goals as goal

pub returns-clause-exist : goal.returns-clause-exist
returns-clause-exist c =
    let t = c.args.timed.now in
    let is : c.push_all_flows.new.columns ≡ columns_of t = search rules in
    subst (λ columns. All (Exists t) columns) (sym is) (columns_exist t)

pub returns-clause-few : goal.returns-clause-few
returns-clause-few c =
    let t = c.args.timed.now in
    let is : c.push_all_flows.new.columns ≡ columns_of t = search rules in
    let links : length t.platform.links ≤ 128 = search rules in
    let targets : length t.platform.targets ≤ 8 = search rules in
    rw is (columns_few t links targets)
