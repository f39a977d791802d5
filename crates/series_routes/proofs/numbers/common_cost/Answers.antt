use Rattle.std.proofs.Common.{rules, ◌≡◌, suc, ◌<◌, ◌≤◌, true, false, [], ◌∷◌, length, Ok, Err, sym, ap, ◌∙◌, add-one, arith}
use Rattle.std.proofs.lemmas.Option.{get_or_from_slice_get}
use Rattle.schedule_model.specs.Operations.{cost_of}
use Rattle.series_routes.specs.Numbers.{goes_over, multiple_of}
use Rattle.series_routes.specs.declared.numbers.PeriodStep.TheVariants.{Costs}
use Rattle.series_routes.proofs.Multiples.{grown, skipped, ended}
use Rattle.series_routes.proofs.numbers.common_cost.Goals.{then-is_in_use+in_ok-common, else-is_in_use}
use Rattle.series_routes.proofs.numbers.common_cost.Goals as goal

pub returns-in_err-common-clause-value : goal.returns-in_err-common-clause-value
returns-in_err-common-clause-value c =
    let passes = goes_over c.args.flows.now in
    let cost = cost_of c.args.timed.now in
    let link = c.loop-link.link in
    let here : passes link ≡ true = search rules in
    let fault : c.from_residual.result ≡ Err c.in_err-common.field-0.0 = search rules in
    let lasts : c.from.result ≡ cost link = c.from.ensures ∙ sym (get_or_from_slice_get c.args.timed.now.costs link c.cost.result 0 c.cost.ensures.value) in
    let told : Err c.in_err-common.field-0.0 ≡ multiple_of Costs c.loop-link.common (cost link ∷ []) = c.in_err-common.ensures.value ∙ ap (λ n. multiple_of Costs c.loop-link.common (n ∷ [])) lasts in
    let inside : link < length c.args.timed.now.platform.links = search rules in
    let most : suc link ≤ length c.args.timed.now.platform.links = omega (arith, inside) in
    fault ∙ sym (ended Costs passes cost c.in_err-common.field-0.0 (suc link) (length c.args.timed.now.platform.links) most (grown Costs passes cost link c.loop-link.common (Err c.in_err-common.field-0.0) c.loop-link.invariant.told here told))

pub loop-link-preserved : goal.loop-link-preserved
loop-link-preserved c =
    let passes = goes_over c.args.flows.now in
    let cost = cost_of c.args.timed.now in
    let link = c.loop-link.link in
    elim c.if-is_in_use.branch [
      | then-is_in_use+in_ok-common w ↦
          let here : passes link ≡ true = search rules in
          let lasts : w.from.result ≡ cost link = w.from.ensures ∙ sym (get_or_from_slice_get c.args.timed.now.costs link w.cost.result 0 w.cost.ensures.value) in
          let grown_to : Ok w.in_ok-common.common ≡ multiple_of Costs c.loop-link.common (cost link ∷ []) = w.in_ok-common.ensures.value ∙ ap (λ n. multiple_of Costs c.loop-link.common (n ∷ [])) lasts in
          let same : c.if-is_in_use.common ≡ w.in_ok-common.common = search rules in
          let told : Ok c.if-is_in_use.common ≡ multiple_of Costs c.loop-link.common (cost link ∷ []) = rw same grown_to in
          record { some = search rules; told = rw add-one (grown Costs passes cost link c.loop-link.common (Ok c.if-is_in_use.common) c.loop-link.invariant.told here told) }
      | else-is_in_use w ↦
          let absent : passes link ≡ false = search rules in
          let same : c.if-is_in_use.common ≡ c.loop-link.common = search rules in
          record { some = search rules; told = rw (add-one, same) (skipped Costs passes cost link c.loop-link.common c.loop-link.invariant.told absent) }
    ]
