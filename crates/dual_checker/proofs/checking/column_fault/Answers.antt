use Rattle.std.proofs.Common.{rules, ◌≡◌, ◌*ℤ◌, pos, length, slice_index_or, ap, ◌∙◌, SFits}
use Rattle.std.specs.Int.{w128}
use Rattle.std.proofs.lemmas.Int.{to_z-of_z}
use Rattle.linear_program.specs.Programmes.{cell_at, row_at, gain_at}
use Rattle.linear_program.specs.Sizes.{fitting}
use Rattle.dual_checker.specs.Verdicts.{covered, fitting_sum}
use Rattle.dual_checker.proofs.checking.column_fault.Goals as goal

pub returns : goal.returns
returns c =
    let p = c.args.lp.now in
    let certificate = c.args.certificate.now in
    let j = c.args.column in
    let scale_fits : SFits w128 c.scale.result = search rules in
    let gain_fits : SFits w128 (slice_index_or c.gain.result.now j (pos 0)) = search rules in
    let least : c.fitting_product-least.result ≡ fitting (certificate.scale *ℤ gain_at p j) =
    rw (to_z-of_z _ _ scale_fits, to_z-of_z _ _ gain_fits, c.scale.ensures, c.gain.ensures) at c.fitting_product-least.ensures in
    let sum : c.column_sum.result ≡ fitting_sum certificate.prices (λ i. cell_at (row_at p i).cells j) (length p.rows) = rw c.prices.ensures at c.column_sum.ensures in
    c.uncovered.ensures ∙ ap (λ least. covered j least c.column_sum.result) least ∙ ap (λ sum. covered j (fitting (certificate.scale *ℤ gain_at p j)) sum) sum
