use Rattle.std.proofs.Common.{◌≢◌, arith, ◌∙◌, inl, inr}
use Rattle.std.proofs.lemmas.Bool.{cases_eq}
use Rattle.dense_tableau.proofs.starting.write_start.Goals as goal

pub loop-row-preserved : goal.loop-row-preserved
loop-row-preserved c =
    let inv = c.loop-row.invariant in
    let o = c.loop-row.row in
    let e = c.start_at.ensures in
    record {
      size = e.length ∙ inv.size;
      written = λ i j l within.
          elim (cases_eq i o) [
            | inl same ↦ rw same (e.there j within)
            | inr beside ↦ e.beside i j beside ∙ inv.written i j (omega arith) within
          ];
      left = λ i j l.
          let beside : i ≢ o = omega arith in
          e.beside i j beside ∙ inv.left i j (omega arith);
    }
