use Rattle.std.proofs.Common.{◌≢◌, arith, sym, ◌∙◌, ap, inl, inr}
use Rattle.std.proofs.lemmas.Bool.{cases_eq}
use Rattle.dense_tableau.specs.Flat.{entry}
use Rattle.dense_tableau.proofs.row.combine_all.Goals as goal

pub combine_column-requires-clause-fits : goal.combine_column-requires-clause-fits
combine_column-requires-clause-fits c apart = rw (c.loop-j.invariant.left c.loop-j.j (omega arith)) (c.requires.fits c.loop-j.j (omega (arith, c.loop-j-test.true, c.loop-j.invariant.length)) apart)

pub loop-j-preserved : goal.loop-j-preserved
loop-j-preserved c =
    let inv = c.loop-j.invariant in
    let j = c.loop-j.j in
    let e = c.combine_column.ensures in
    record {
      length = e.length ∙ inv.length;
      left = λ k l. e.beside k (let apart : k ≢ j = omega arith in apart) ∙ inv.left k (omega arith);
      cells = λ k l apart.
          elim (cases_eq k j) [
            | inl same ↦ rw same (rw (← inv.left j (omega arith)) (e.cell (λ at. apart (same ∙ at))))
            | inr other ↦ e.beside k other ∙ inv.cells k (omega arith) apart
          ];
      zero = λ l.
          elim (cases_eq c.args.column j) [
            | inl same ↦ ap (entry c.combine_column.new.row) same ∙ e.zero (sym same)
            | inr other ↦ e.beside c.args.column other ∙ inv.zero (omega arith)
          ];
      small = λ k l.
          elim (cases_eq k j) [
            | inl same ↦ rw same e.small
            | inr other ↦ rw (e.beside k other) (inv.small k (omega arith))
          ];
    }
