use Rattle.std.proofs.Common.{rules, ◌≡◌, true, false}
use Rattle.programme_rows.proofs.Listings.{pushed}
use Rattle.scatter_program.specs.declared.columns.Column.TheVariants.{Flows}
use Rattle.scatter_program.specs.Columns.{carries}
use Rattle.scatter_program.proofs.columns.push_flows.Goals.{then-carries+in_ok-push, else-carries}
use Rattle.scatter_program.proofs.columns.push_flows.Goals as goal

pub loop-link-preserved : goal.loop-link-preserved
loop-link-preserved c =
    let t = c.args.timed.now in
    let kind = c.args.kind in
    let link = c.loop-link.link in
    elim c.if-carries.branch [
      | then-carries+in_ok-push w ↦
          let does : carries t kind link ≡ true = search rules in
          pushed (carries t kind) (λ link. Flows link kind) link true _ _ _ does c.loop-link.invariant (search rules)
      | else-carries w ↦
          let doesnt : carries t kind link ≡ false = search rules in
          pushed (carries t kind) (λ link. Flows link kind) link false _ _ _ doesnt c.loop-link.invariant (search rules)
    ]
