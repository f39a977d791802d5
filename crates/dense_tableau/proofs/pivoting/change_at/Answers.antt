use Rattle.std.proofs.Common.{◌+◌, ◌-◌, ◌*◌, ◌≤◌, length, take, drop, arith, sym, ◌∙◌, ap, inl, inr}
use Rattle.std.proofs.lemmas.Bool.{cases_lt}
use Rattle.linear_program.specs.Pivots.{row_overflow, changed_row}
use Rattle.linear_program.proofs.Changes.{changed_beyond}
use Rattle.dense_tableau.specs.Flat.{entry, cell_of}
use Rattle.dense_tableau.proofs.Flat.{cell_beyond, lent, written_there, written_beside}
use Rattle.dense_tableau.proofs.Entries.{beyond_row}
use Rattle.dense_tableau.proofs.pivoting.change_at.Goals as goal

pub change_row-requires-clause-fits : goal.change_row-requires-clause-fits
change_row-requires-clause-fits c =
    let w = length c.args.pivot_row.now in
    let o = c.args.other in
    let k = o * w + w - o * w in
    let whole : o * w + w ≤ length c.args.cells.now = omega (arith, c.requires.within) in
    let line = lent w c.args.cells.now o k (omega arith) whole in
    ap (λ n. row_overflow n (entry c.args.pivot_row.now) (entry (take k (drop (o * w) c.args.cells.now))) c.args.column) line.0
    ∙ ap (λ r. row_overflow w (entry c.args.pivot_row.now) r c.args.column) line.1 ∙ c.requires.fits

pub returns-clause-beside : goal.returns-clause-beside
returns-clause-beside c i j apart =
    let w = length c.args.pivot_row.now in
    let o = c.args.other in
    let k = o * w + w - o * w in
    let whole : o * w + w ≤ length c.args.cells.now = omega (arith, c.requires.within) in
    let line = lent w c.args.cells.now o k (omega arith) whole in
    written_beside w c.args.cells.now o k c.change_row.new.row i j (omega arith) (c.change_row.ensures.length ∙ line.0) whole apart

pub returns-clause-changed : goal.returns-clause-changed
returns-clause-changed c j =
    let w = length c.args.pivot_row.now in
    let o = c.args.other in
    let k = o * w + w - o * w in
    let cells = c.args.cells.now in
    let whole : o * w + w ≤ length cells = omega (arith, c.requires.within) in
    let line = lent w cells o k (omega arith) whole in
    elim (cases_lt j w) [
      | inl within ↦
          written_there w cells o k c.change_row.new.row j (c.change_row.ensures.length ∙ line.0) whole within
          ∙ c.change_row.ensures.changed j (rw line.0 within)
          ∙ ap (λ n. changed_row n (entry c.args.pivot_row.now) (entry (take k (drop (o * w) cells))) c.args.column j) line.0
          ∙ ap (λ r. changed_row w (entry c.args.pivot_row.now) r c.args.column j) line.1
      | inr past ↦
          cell_beyond w _ o j past
          ∙ sym (changed_beyond w (entry c.args.pivot_row.now) (cell_of w cells o) c.args.column j (beyond_row c.args.pivot_row.now j past) (cell_beyond w cells o j past))
    ]
