use Rattle.std.proofs.Common.{rules, ◌≡◌, true, false}
use Rattle.tasking_program.specs.declared.columns.Column.TheVariants.{Flows}
use Rattle.tasking_program.specs.Columns.{carries}
use Rattle.programme_rows.proofs.Listings.{pushed}
use Rattle.tasking_program.proofs.columns.push_flows.Goals.{then-carries+in_ok-push, else-carries}
use Rattle.tasking_program.proofs.columns.push_flows.Goals as goal

pub loop-link-preserved : goal.loop-link-preserved
loop-link-preserved c =
    let t = c.args.timed.now in
    let link = c.loop-link.link in
    elim c.if-carries.branch [
      | then-carries+in_ok-push w ↦
          let does : carries t link ≡ true = search rules in
          pushed (carries t) Flows link true _ _ _ does c.loop-link.invariant (search rules)
      | else-carries w ↦
          let doesnt : carries t link ≡ false = search rules in
          pushed (carries t) Flows link false _ _ _ doesnt c.loop-link.invariant (search rules)
    ]
