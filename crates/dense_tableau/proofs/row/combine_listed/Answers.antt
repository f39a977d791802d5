use Rattle.std.proofs.Common.{◌≡◌, ◌≢◌, ℕ, ◌<◌, ◌≤◌, ◌-ℤ◌, ◌*ℤ◌, length, slice_index, arith, sym, subst, ◌∙◌, ap, inl, inr}
use Rattle.std.proofs.lemmas.Bool.{cases_eq}
use Rattle.dense_tableau.specs.Flat.{entry}
use Rattle.dense_tableau.proofs.Listed.{IsCombined}
use Rattle.dense_tableau.proofs.row.combine_listed.Goals as goal

pub loop-k-preserved : goal.loop-k-preserved
loop-k-preserved c =
    let inv = c.loop-k.invariant in
    let columns = c.args.columns.now in
    let k = c.loop-k.k in
    let here : ℕ = slice_index columns k in
    let e = c.combine_column.ensures in
    let new = c.combine_column.new.row in
    let own = c.args.by.now.own in
    let pivot = c.args.by.now.pivot in
    let start = c.args.row.now in
    let below = c.args.pivot_row.now in
    let old : entry c.loop-k.row here ≡ entry start here = inv.left k (omega arith) c.loop-k-test.true in
    let made_here : IsCombined own pivot (entry start here) (entry below here) c.args.column here (entry new here) = record {
      cell = λ apart. e.cell apart ∙ ap (λ z. own *ℤ z -ℤ pivot *ℤ entry below here) old;
      zero = e.zero;
      small = e.small;
    } in
    record {
      size = e.length ∙ inv.size;
      left = λ m l within.
          let less : here < slice_index columns m = c.requires.columns.rising k m (omega arith) within in
          e.beside (slice_index columns m) (let apart : slice_index columns m ≢ here = omega arith in apart) ∙ inv.left m (omega arith) within;
      made = λ j inside other.
          elim (cases_eq j here) [
            | inl same ↦ subst (λ i. IsCombined own pivot (entry start i) (entry below i) c.args.column i (entry new i)) (sym same) made_here
            | inr apart ↦
                let not_from : (m : ℕ) → k ≤ m → m < length columns → slice_index columns m ≢ j =
                λ m l within. elim (cases_eq m k) [
                  | inl first ↦ λ is. apart (sym is ∙ ap (slice_index columns) first)
                  | inr later ↦ other m (omega arith) within
                ] in
                subst (IsCombined own pivot (entry start j) (entry below j) c.args.column j) (sym (e.beside j apart)) (inv.made j inside not_from)
          ];
    }
