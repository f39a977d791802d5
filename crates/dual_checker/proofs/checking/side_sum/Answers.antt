use Rattle.std.proofs.Common.{rules, ◌≡◌, ◌<◌, pos, length, option_and_then, slice_index_or, add-one, sym, ap, ◌∙◌, SFits}
use Rattle.std.specs.Int.{w128}
use Rattle.std.proofs.lemmas.Int.{to_z-of_z}
use Rattle.std.proofs.lemmas.List.{get_or_default}
use Rattle.linear_program.specs.Programmes.{row_at}
use Rattle.dual_checker.specs.Verdicts.{price_at, fitting_more}
use Rattle.dual_checker.proofs.checking.side_sum.Goals as goal

pub loop-row-preserved : goal.loop-row-preserved
loop-row-preserved c =
    let p = c.args.lp.now in
    let prices = c.args.prices.now in
    let row = c.loop-row.row in
    let rows : c.rows-rows.result.now ≡ p.rows = search rules in
    let within : row < length p.rows = search rules in
    let this : c.index-rows-row.result ≡ row_at p row = c.index-rows-row.is ∙ ap (λ rows. slice_index_or rows row c.index-rows-row.result) rows ∙ get_or_default p.rows row _ _ within in
    let number : c.rhs.result ≡ (row_at c.args.lp.now c.loop-row.row).rhs = c.rhs.ensures ∙ ap (λ r. r.rhs) this in
    let price_fits : SFits w128 (slice_index_or prices row (pos 0)) = search rules in
    let number_fits : SFits w128 c.rhs.result = search rules in
    let step : c.fitting_more-sum.result ≡ option_and_then (λ sum. fitting_more sum (price_at prices row) ((row_at c.args.lp.now c.loop-row.row).rhs)) c.loop-row.sum =
    rw (to_z-of_z _ _ price_fits, to_z-of_z _ _ number_fits, number) at c.fitting_more-sum.ensures in
    rw add-one (ap (λ sum. option_and_then (λ sum. fitting_more sum (price_at prices row) ((row_at c.args.lp.now c.loop-row.row).rhs)) sum) c.loop-row.invariant ∙ sym step)
