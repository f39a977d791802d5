use Rattle.std.proofs.Common.{◌+◌, ◌-◌, ◌*◌, ◌≤◌, length, take, drop, arith, ◌∙◌, ap}
use Rattle.linear_program.specs.Pivots.{rows_overflow}
use Rattle.dense_tableau.specs.Flat.{entry, cell_of}
use Rattle.dense_tableau.proofs.Flat.{lent, row_within}
use Rattle.dense_tableau.proofs.pivoting.first_overflow.Goals as goal

pub returns : goal.returns
returns c =
    let w = c.args.width in
    let r = c.args.row in
    let k = r * w + w - r * w in
    let cells = c.args.cells.now in
    let row = take k (drop (r * w) cells) in
    let whole : r * w + w ≤ length cells = omega (arith, c.requires.whole, row_within c.args.rows w r c.requires.row) in
    let line = lent w cells r k (omega arith) whole in
    c.overflow_among.ensures
    ∙ ap (λ n. rows_overflow n (entry row) (cell_of n cells) r c.args.column c.args.rows) line.0
    ∙ ap (λ f. rows_overflow w f (cell_of w cells) r c.args.column c.args.rows) line.1
