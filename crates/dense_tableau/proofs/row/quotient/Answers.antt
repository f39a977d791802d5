use Rattle.std.proofs.Common.{SFits}
use Rattle.std.specs.Int.{w128}
use Rattle.std.proofs.lemmas.Int.{to_z-of_z, to_z_pos}
use Rattle.dense_tableau.proofs.Quotients.{quotient_fits}
use Rattle.dense_tableau.proofs.row.quotient.Goals as goal

pub nonzero_div-result : goal.nonzero_div-result
nonzero_div-result c =
    let fits : SFits w128 c.args.cell = c.ranges.cell in
    rw (to_z-of_z w128 c.args.cell fits, to_z_pos w128 c.args.divisor c.requires.fits) (c.requires.some, quotient_fits c.args.cell c.args.divisor fits)

pub returns : goal.returns
returns c =
    let fits : SFits w128 c.args.cell = c.ranges.cell in
    rw (to_z-of_z w128 c.args.cell fits, to_z_pos w128 c.args.divisor c.requires.fits) (to_z-of_z w128 _ (quotient_fits c.args.cell c.args.divisor fits))
