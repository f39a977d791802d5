use Rattle.std.proofs.Common.{rules, ◌≡◌, ◌<◌, length, to_z, arith, sym, subst, ◌∙◌, ap, SFits}
use Rattle.std.specs.Int.{w128}
use Rattle.std.proofs.lemmas.Int.{to_z-of_z}
use Rattle.dense_tableau.specs.Flat.{entry}
use Rattle.dense_tableau.proofs.Listed.{AreListed, noted, passed, all_listed}
use Rattle.dense_tableau.proofs.row.nonzero_columns.Goals as goal
use Rattle.dense_tableau.proofs.row.nonzero_columns.Goals.{then-row-j-ne0, else-row-j-ne0}

pub loop-j-preserved : goal.loop-j-preserved
loop-j-preserved c =
    let inv = c.loop-j.invariant in
    let row = c.args.row.now in
    let j = c.loop-j.j in
    let fits : SFits w128 (entry row j) = search rules in
    let room : c.loop-j.count < length c.loop-j.columns = omega (arith, inv.listed.few, c.loop-j-test.true, c.requires.room, inv.length) in
    record {
      length = c.if-row-j-ne0.auto.columns ∙ inv.length;
      listed = elim c.if-row-j-ne0.branch [
        | then-row-j-ne0 w ↦ rw (w.columns-is, w.count-is) (noted row c.loop-j.columns c.loop-j.count j room inv.listed)
        | else-row-j-ne0 w ↦ rw (w.columns-is, w.count-is) (passed row c.loop-j.columns c.loop-j.count j (sym (to_z-of_z _ _ fits) ∙ ap (to_z w128) w.if-row-j-ne0.false) inv.listed)
      ];
    }

pub returns-clause-listed : goal.returns-clause-listed
returns-clause-listed c =
    let inv = c.loop-j.invariant in
    let row = c.args.row.now in
    let ended : c.loop-j.j ≡ length row = omega (arith, c.loop-j.auto.j-end, c.loop-j-test.false) in
    all_listed row c.loop-j.columns c.loop-j.count (omega (arith, inv.listed.few, ended, c.requires.room, inv.length))
    (subst (AreListed row c.loop-j.columns c.loop-j.count) ended inv.listed)
