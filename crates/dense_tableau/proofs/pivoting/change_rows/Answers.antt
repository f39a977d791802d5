use Rattle.std.proofs.Common.{◌≡◌, ◌≢◌, length, arith, ◌∙◌, ap, inl, inr}
use Rattle.std.proofs.lemmas.Bool.{cases_eq}
use Rattle.linear_program.specs.Pivots.{changed_row, row_overflow}
use Rattle.dense_tableau.specs.Flat.{entry, cell_of}
use Rattle.dense_tableau.proofs.pivoting.change_rows.Goals as goal

-- a row that is still to be changed is that of the start
pub change_at-requires-clause-fits : goal.change_at-requires-clause-fits
change_at-requires-clause-fits c =
    let w = length c.args.pivot_row.now in
    let o = c.loop-other.other in
    let same : cell_of w c.loop-other.cells o ≡ cell_of w c.args.cells.now o = λ d j. c.loop-other.invariant.left o j (omega arith) d in
    ap (λ r. row_overflow w (entry c.args.pivot_row.now) r c.args.column) same ∙ c.requires.fits o (omega (arith, c.loop-other-test.true))

pub loop-other-preserved : goal.loop-other-preserved
loop-other-preserved c =
    let w = length c.args.pivot_row.now in
    let inv = c.loop-other.invariant in
    let o = c.loop-other.other in
    let e = c.change_at.ensures in
    let same : cell_of w c.loop-other.cells o ≡ cell_of w c.args.cells.now o = λ d j. inv.left o j (omega arith) d in
    record {
      size = e.length ∙ inv.size;
      changed = λ i j l.
          elim (cases_eq i o) [
            | inl at ↦ rw at (e.changed j ∙ ap (λ r. changed_row w (entry c.args.pivot_row.now) r c.args.column j) same)
            | inr beside ↦ e.beside i j beside ∙ inv.changed i j (omega arith)
          ];
      left = λ i j l.
          let beside : i ≢ o = omega arith in
          e.beside i j beside ∙ inv.left i j (omega arith);
    }
