use Rattle.std.proofs.Common.{◌≡◌, ◌+◌, ◌-◌, ◌*◌, ◌<◌, ◌≤◌, Some, None, length, take, drop, add-one, arith, sym, ◌∙◌, ap}
use Rattle.linear_program.specs.Pivots.{row_overflow}
use Rattle.linear_program.proofs.Overflows.{overflow_found, pivot_row_passed, row_passed}
use Rattle.dense_tableau.specs.Flat.{entry, cell_of}
use Rattle.dense_tableau.proofs.Flat.{lent, row_within}
use Rattle.dense_tableau.proofs.pivoting.overflow_among.Goals as goal
use Rattle.dense_tableau.proofs.pivoting.overflow_among.Goals.{then-other-row+in_default, else-other-row}

pub returns-in-Some : goal.returns-in-Some
returns-in-Some c =
    let w = length c.args.pivot_row.now in
    let o = c.loop-other.other in
    let k = o * w + w - o * w in
    let cells = c.args.cells.now in
    let pivot_row = entry c.args.pivot_row.now in
    let within : o < c.args.rows = omega (arith, c.loop-other-test.true) in
    let whole : o * w + w ≤ length cells = omega (arith, c.requires.whole, row_within c.args.rows w o within) in
    let line = lent w cells o k (omega arith) whole in
    let here : row_overflow w pivot_row (cell_of w cells o) c.args.column ≡ Some c.in-Some.at =
    sym (c.in-Some.ensures ∙ ap (λ n. row_overflow n pivot_row (entry (take k (drop (o * w) cells))) c.args.column) line.0 ∙ ap (λ r. row_overflow w pivot_row r c.args.column) line.1) in
    sym (overflow_found w pivot_row (cell_of w cells) c.args.row c.args.column c.args.rows o c.in-Some.at within c.loop-other.invariant c.if-other-row.true here)

pub loop-other-preserved : goal.loop-other-preserved
loop-other-preserved c =
    let w = length c.args.pivot_row.now in
    let o = c.loop-other.other in
    let k = o * w + w - o * w in
    let cells = c.args.cells.now in
    let pivot_row = entry c.args.pivot_row.now in
    let within : o < c.args.rows = omega (arith, c.loop-other-test.true) in
    let whole : o * w + w ≤ length cells = omega (arith, c.requires.whole, row_within c.args.rows w o within) in
    let line = lent w cells o k (omega arith) whole in
    rw add-one
    (elim c.if-other-row.branch [
      | then-other-row+in_default v ↦
          let here : row_overflow w pivot_row (cell_of w cells o) c.args.column ≡ None =
          sym (v.in_default.ensures ∙ ap (λ n. row_overflow n pivot_row (entry (take k (drop (o * w) cells))) c.args.column) line.0 ∙ ap (λ r. row_overflow w pivot_row r c.args.column) line.1) in
          row_passed w pivot_row (cell_of w cells) c.args.row c.args.column o c.loop-other.invariant v.if-other-row.true here
      | else-other-row v ↦ pivot_row_passed w pivot_row (cell_of w cells) c.args.row c.args.column o c.loop-other.invariant v.if-other-row.false
    ])
