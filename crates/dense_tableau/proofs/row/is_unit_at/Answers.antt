use Rattle.std.proofs.Common.{rules, ◌≡◌, ◌<◌, nat_abs, length, sym, ◌∙◌}
use Rattle.std.proofs.lemmas.Bool.{eqb-true, ltb-true}
use Rattle.dense_tableau.specs.Flat.{entry}
use Rattle.dense_tableau.proofs.Units.{unit_leaves_one}
use Rattle.dense_tableau.proofs.row.is_unit_at.Goals as goal

pub returns-in-Some : goal.returns-in-Some
returns-in-Some c unit =
    let row = c.args.row.now in
    let found = c.in-Some.ensures.lookup in
    let within : c.args.column < length row = ltb-true _ _ (sym found.0) in
    let size : c.unsigned_abs.result ≡ nat_abs (entry row c.args.column) = search rules in
    unit_leaves_one (length row) c.args.column (entry row) within (sym size ∙ eqb-true _ _ unit)
