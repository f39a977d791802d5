use Rattle.std.proofs.Common.{◌≡◌, ◌+◌, arith, ap, sym, ◌∙◌, subst}
use Rattle.bipartite_slots.specs.Squares.{cell}
use Rattle.bipartite_slots.proofs.Cells.{cell_column}
use Rattle.bipartite_slots.proofs.Listing.{ListsBelow, lists_push, lists_skip, has_positives}
use Rattle.bipartite_slots.proofs.columns.positive_columns.Goals as goal
use Rattle.bipartite_slots.proofs.columns.positive_columns.Goals.{then-get-gt0+in_ok-push, else-get-gt0}

pub loop-column-preserved : goal.loop-column-preserved
loop-column-preserved c =
    let row = cell c.args.square.now c.args.row in
    let column = c.loop-column.column in
    elim c.if-get-gt0.branch [
      | then-get-gt0+in_ok-push w ↦ subst (ListsBelow row (column + 1)) (sym (ap (λ v. v.items) w.columns-is ∙ w.in_ok-push.ensures.items)) (lists_push row column c.loop-column.columns.items c.loop-column.invariant)
      | else-get-gt0 w ↦ subst (ListsBelow row (column + 1)) (sym (ap (λ v. v.items) w.columns-is)) (lists_skip row column c.loop-column.columns.items c.loop-column.invariant (omega (arith, w.if-get-gt0.false, c.get.ensures)))
    ]

pub returns : goal.returns
returns c =
    let e : c.loop-column.column ≡ c.args.square.now.size = omega (arith, c.loop-column-test.false, c.size-column-end.ensures, c.loop-column.auto) in
    has_positives c.args.square.now.size (cell c.args.square.now c.args.row) c.loop-column.columns.items (cell_column c.args.square.now c.args.row)
    (subst (λ n. ListsBelow (cell c.args.square.now c.args.row) n c.loop-column.columns.items) e c.loop-column.invariant)
