use Rattle.std.proofs.Common.{rules, ◌≡◌, ◌-◌, arith, SFits}
use Rattle.std.specs.Int.{w128}
use Rattle.std.proofs.lemmas.Int.{ints, to_z-of_z}
use Rattle.linear_program.specs.Tableaux.{objective_column, side_column}
use Rattle.exact_simplex.specs.Optima.{scale_of, best_of}
use Rattle.exact_simplex.proofs.Ends.{scale_positive}
use Rattle.exact_simplex.proofs.solving.optimum.Goals as goal

pub new-requires : goal.new-requires
new-requires g c =
    let t = g.T.Tableau.tableau c.args.tableau.now in
    let scale_fits : SFits w128 c.cell.result = search rules in
    let best_fits : SFits w128 c.cell-2.result = search rules in
    let last : c.rows-last.result - 1 ≡ t.constraints = omega (arith, c.rows-last.ensures) in
    let objective : c.columns-side.result - 1 - 1 ≡ objective_column t = omega (arith, c.columns-side.ensures) in
    let side : c.columns-side.result - 1 ≡ side_column t = omega (arith, c.columns-side.ensures) in
    let scale : c.cell.result ≡ scale_of t = rw (last, objective) at c.cell.ensures in
    let best : c.cell-2.result ≡ best_of t = rw (last, side) at c.cell-2.ensures in
    let positive = scale_positive t c.requires.canonical in
    record {
      some_scale = rw (to_z-of_z _ _ scale_fits, scale) (omega (arith, ints, positive));
      best_not_negative = rw (to_z-of_z _ _ best_fits, best) c.requires.best;
      small_prices = c.in_ok-prices.ensures.small;
    }
