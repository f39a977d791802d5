use Rattle.std.proofs.Common.{pos, length, arith, ap, ◌∙◌}
use Rattle.std.specs.Prelude.{int_div}
use Rattle.linear_program.proofs.Changes.{small_divisor}
use Rattle.dense_tableau.specs.Flat.{entry}
use Rattle.dense_tableau.proofs.row.reduce.Goals as goal

pub returns-else-divisor-gt1-clause-reduced : goal.returns-else-divisor-gt1-clause-reduced
returns-else-divisor-gt1-clause-reduced c j within =
    let row = c.args.row.now in
    let value = c.divisor_of-divisor.ensures.value in
    small_divisor (length row) (entry row) j c.divisor_of-divisor.result within value (omega (arith, c.if-divisor-gt1.false))
    ∙ ap (λ d. int_div (entry row j) (pos d)) value
