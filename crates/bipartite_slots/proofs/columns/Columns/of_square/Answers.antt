use Rattle.std.proofs.Common.{◌≡◌, ◌+◌, length, map, arith, ap, sym, ◌∙◌, subst}
use Rattle.std.proofs.lemmas.List.{length-map, length_push, map_push}
use Rattle.bipartite_slots.specs.Squares.{cell}
use Rattle.bipartite_slots.specs.Columns.{HasPositives}
use Rattle.bipartite_slots.proofs.Listing.{ListsRows, lists_rows_push}
use Rattle.bipartite_slots.proofs.columns.Columns.of_square.Goals as goal

pub loop-row-preserved : goal.loop-row-preserved
loop-row-preserved c =
    let size = c.args.square.now.size in
    let cells = cell c.args.square.now in
    let so_far = map (λ row. row.items) c.loop-row.rows.items in
    let many : length so_far ≡ c.loop-row.row = length-map c.loop-row.rows.items (λ row. row.items) ∙ c.loop-row.invariant.as_many in
    record {
      as_many = ap length c.in_ok-push.ensures.items ∙ length_push c.loop-row.rows.items c.in_ok-columns.columns ∙ ap (λ n. n + 1) c.loop-row.invariant.as_many;
      lists = subst (ListsRows size cells) (sym (ap (map (λ row. row.items)) c.in_ok-push.ensures.items ∙ map_push (λ row. row.items) c.loop-row.rows.items c.in_ok-columns.columns))
          (lists_rows_push size cells so_far c.in_ok-columns.columns.items c.loop-row.invariant.lists (subst (λ n. HasPositives size (cells n) c.in_ok-columns.columns.items) (sym many) c.in_ok-columns.ensures));
    }

pub returns : goal.returns
returns c =
    let many = length-map c.loop-row.rows.items (λ row. row.items) in
    let e : length (map (λ row. row.items) c.loop-row.rows.items) ≡ c.args.square.now.size = omega (arith, many, c.loop-row.invariant.as_many, c.loop-row-test.false, c.loop-row.auto, c.size-row-end.ensures) in
    record {
      as_many = e;
      each = λ row h. c.loop-row.invariant.lists row (omega (arith, e, h));
    }
