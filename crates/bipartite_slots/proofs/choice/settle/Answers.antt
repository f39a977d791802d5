use Rattle.std.proofs.Common.{◌≡◌, ◌≢◌, Some, get_or, arith, sym, ◌∙◌, subst, below_more}
use Rattle.std.proofs.lemmas.Bool.{iff_false}
use Rattle.bipartite_slots.specs.Squares.{cell}
use Rattle.bipartite_slots.specs.Searches.{holder}
use Rattle.bipartite_slots.specs.Choices.{Excludes, IsLeastAt, KeepsEarlier}
use Rattle.bipartite_slots.proofs.Choices.{least_found}
use Rattle.bipartite_slots.proofs.Listing.{item_inside, excluded_below, zero_excluded, own_listed}
use Rattle.bipartite_slots.proofs.choice.settle.Goals as goal
use Rattle.bipartite_slots.proofs.choice.settle.Goals.{else-get-gt0-via-then-get-gt0+else-exchange, else-get-gt0-via-else-get-gt0}

pub returns-then-holds-clause-least : goal.returns-then-holds-clause-least
returns-then-holds-clause-least c =
    let size = c.args.square.now.size in
    let cells = cell c.args.square.now in
    let column = get_or c.of-column-items.result.now c.loop-column.column-index 0 in
    subst (λ hs. IsLeastAt c.args.square.now.size (cell c.args.square.now) hs c.args.row) (sym c.loop-column.invariant.unchanged)
    (least_found size cells c.args.holders.now c.args.holders.now c.args.row column c.requires.complete.matching
    (λ earlier l. c.requires.complete.full earlier (omega arith)) (λ earlier j l e. e)
    (subst (λ hs. holder hs column ≡ Some c.args.row) c.loop-column.invariant.unchanged (c.holds.ensures.0 c.if-holds.true))
    (excluded_below c.args.columns.now size cells c.requires.listed c.args.row c.of-column-items.result.now c.of-column-items.ensures c.args.holders.now c.requires.row
    c.loop-column.column-index c.loop-column-test.true c.loop-column.invariant.excluded))

pub returns-then-exchange-clause-least : goal.returns-then-exchange-clause-least
returns-then-exchange-clause-least c =
    least_found c.args.square.now.size (cell c.args.square.now) c.args.holders.now c.exchange.new.holders c.args.row
    (get_or c.of-column-items.result.now c.loop-column.column-index 0)
    (c.exchange.ensures.complete c.if-exchange.true).matching
    (λ earlier l. c.requires.complete.full earlier (omega arith))
    (subst (λ hs. KeepsEarlier hs c.exchange.new.holders c.args.row) c.loop-column.invariant.unchanged (c.exchange.ensures.kept c.if-exchange.true))
    (c.exchange.ensures.exchanged c.if-exchange.true)
    (excluded_below c.args.columns.now c.args.square.now.size (cell c.args.square.now) c.requires.listed c.args.row c.of-column-items.result.now c.of-column-items.ensures
    c.args.holders.now c.requires.row c.loop-column.column-index c.loop-column-test.true c.loop-column.invariant.excluded)

pub loop-column-preserved : goal.loop-column-preserved
loop-column-preserved c =
    let not_yet = below_more (λ k. holder c.args.holders.now (get_or c.of-column-items.result.now k 0) ≢ Some c.args.row) c.loop-column.column-index c.loop-column.invariant.not_yet (λ e.
    iff_false c.holds.ensures c.if-holds.false
    (subst (λ hs. holder hs (get_or c.of-column-items.result.now c.loop-column.column-index 0) ≡ Some c.args.row) (sym c.loop-column.invariant.unchanged) e)) in
    elim c.else-get-gt0.branch [
      | else-get-gt0-via-then-get-gt0+else-exchange w ↦ record {
        unchanged = w.holders-is ∙ w.exchange.ensures.unchanged w.if-exchange.false ∙ c.loop-column.invariant.unchanged;
        not_yet = not_yet;
        excluded = below_more (λ k. Excludes c.args.square.now.size (cell c.args.square.now) c.args.holders.now c.args.row (get_or c.of-column-items.result.now k 0))
            c.loop-column.column-index c.loop-column.invariant.excluded
            (subst (λ hs. Excludes c.args.square.now.size (cell c.args.square.now) hs c.args.row (get_or c.of-column-items.result.now c.loop-column.column-index 0))
            c.loop-column.invariant.unchanged (w.exchange.ensures.excluded w.if-exchange.false));
      }
      | else-get-gt0-via-else-get-gt0 w ↦ record {
        unchanged = w.holders-is ∙ c.loop-column.invariant.unchanged;
        not_yet = not_yet;
        excluded = below_more (λ k. Excludes c.args.square.now.size (cell c.args.square.now) c.args.holders.now c.args.row (get_or c.of-column-items.result.now k 0))
            c.loop-column.column-index c.loop-column.invariant.excluded
            (zero_excluded c.args.columns.now c.args.square.now.size (cell c.args.square.now) c.requires.listed c.args.row c.of-column-items.result.now c.of-column-items.ensures
            c.args.holders.now c.requires.row (get_or c.of-column-items.result.now c.loop-column.column-index 0) (omega (arith, w.if-get-gt0.false, c.get.ensures)));
      }
    ]

pub returns-clause-least : goal.returns-clause-least
returns-clause-least c =
    let own = own_listed c.args.columns.now c.args.square.now.size (cell c.args.square.now) c.requires.listed c.args.row c.of-column-items.result.now c.of-column-items.ensures
    c.args.holders.now c.requires.row c.requires.complete in
    absurd (c.loop-column.invariant.not_yet own.0 (omega (arith, own.1)) own.2)

pub holds-requires : goal.holds-requires
holds-requires c =
    omega (
      arith,
      item_inside c.args.columns.now c.args.square.now.size (cell c.args.square.now) c.requires.listed c.args.row c.of-column-items.result.now c.of-column-items.ensures c.requires.row
          c.loop-column.column-index c.loop-column-test.true,
    )

pub get-requires-clause-column : goal.get-requires-clause-column
get-requires-clause-column c =
    item_inside c.args.columns.now c.args.square.now.size (cell c.args.square.now) c.requires.listed c.args.row c.of-column-items.result.now c.of-column-items.ensures c.requires.row
    c.loop-column.column-index c.loop-column-test.true

pub exchange-requires-clause-column : goal.exchange-requires-clause-column
exchange-requires-clause-column c =
    item_inside c.args.columns.now c.args.square.now.size (cell c.args.square.now) c.requires.listed c.args.row c.of-column-items.result.now c.of-column-items.ensures c.requires.row
    c.loop-column.column-index c.loop-column-test.true
