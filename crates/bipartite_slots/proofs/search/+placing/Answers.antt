use Rattle.std.proofs.Common.{◌≡◌, ℕ, ◌+◌, ◌<◌, ◌≤◌, true, List, Option, Some, None, set, get_or, arith, rules, sym, ◌∙◌, ap, subst}
use Rattle.std.proofs.lemmas.Bool.{false≢true}
use Rattle.std.proofs.lemmas.List.{set-set, set-get_or, length-set}
use Rattle.bipartite_slots.specs.Squares.{cell}
use Rattle.bipartite_slots.specs.Searches.{holder, is_seen, unseen, IsMatching, IsUnplaced, Places}
use Rattle.bipartite_slots.proofs.Cells.{cell_row}
use Rattle.bipartite_slots.proofs.Listing.{item_inside, item_of}
use Rattle.bipartite_slots.proofs.Growing.{matching_put, put_out, places_free, places_moved, unseen_at_most, unseen-set}
use Rattle.bipartite_slots.proofs.search.+placing.Goals as goal
use Rattle.bipartite_slots.proofs.search.+placing.Goals.{seat-in-None, seat-in-Some}

pub place-seat-requires : goal.place-seat-requires
place-seat-requires t c =
    let fewer : unseen c.loop-column.seen ≤ unseen c.args.seen.now =
    unseen_at_most c.args.seen.now c.loop-column.seen (omega arith) c.loop-column.invariant.searched.grown in
    let inside = item_inside c.args.columns.now c.args.square.now.size (cell c.args.square.now) c.requires.listed c.args.row c.of-column-items.result.now c.of-column-items.ensures c.requires.row
    c.loop-column.column-index (omega arith) in
    let same = c.loop-column.invariant.unchanged in (
      omega (arith, fewer),
      (
        c.requires.listed,
        (
          omega arith,
          (
            omega (arith, inside),
            (
              omega arith,
              (
                omega arith,
                (
                  subst (IsMatching (cell c.args.square.now)) (sym same) c.requires.matching,
                  (
                    subst (λ hs. IsUnplaced hs c.args.row) (sym same) c.requires.unplaced,
                    (search rules, omega arith),
                  ),
                ),
              ),
            ),
          ),
        ),
      ),
    )

pub place-returns-clause-blocked : goal.place-returns-clause-blocked
place-returns-clause-blocked t c = λ _ j p.
    let found = item_of c.args.columns.now c.args.square.now.size (cell c.args.square.now) c.requires.listed c.args.row c.of-column-items.result.now c.of-column-items.ensures c.requires.row j p in
    subst (λ n. is_seen c.loop-column.seen n ≡ true) found.2
    (c.loop-column.invariant.passed found.0 (omega (arith, found.1)) (subst (λ n. 0 < cell c.args.square.now c.args.row n) (sym found.2) p))

pub seat-place-seated-requires : goal.seat-place-seated-requires
seat-place-seated-requires t c =
    let was : holder c.args.holders.now c.args.column ≡ Some c.in-Some.other = c.in-Some.is in
    let fewer : unseen (set c.args.seen.now c.args.column true) + 1 ≡ unseen c.args.seen.now =
    unseen-set c.args.seen.now c.args.column (omega arith) c.requires.unseen in (
      omega (arith, fewer),
      (
        c.requires.listed,
        (
          cell_row c.args.square.now c.in-Some.other c.args.column (c.requires.matching.positive c.in-Some.other c.args.column was),
          (
            omega (arith, length-set c.args.seen.now c.args.column true),
            (
              omega (arith, length-set c.args.holders.now c.args.column (Some c.args.row)),
              (
                matching_put (cell c.args.square.now) c.args.holders.now c.args.row c.args.column c.requires.matching c.requires.unplaced (omega arith) c.requires.positive,
                put_out (cell c.args.square.now) c.args.holders.now c.args.row c.args.column c.requires.matching c.requires.unplaced (omega arith) c.in-Some.other was,
              ),
            ),
          ),
        ),
      ),
    )

put_back : (holders : List (Option ℕ)) (column row : ℕ) (now : List (Option ℕ)) (displaced : Option ℕ) →
    now ≡ set holders column (Some row) → displaced ≡ get_or holders column None → set now column displaced ≡ holders
put_back holders column row now displaced e f =
    ap (λ hs. set hs column displaced) e ∙ set-set holders column (Some row) displaced ∙ ap (λ d. set holders column d) f ∙ set-get_or holders column None

pub seat-returns-then-not-seated-clause-unchanged : goal.seat-returns-then-not-seated-clause-unchanged
seat-returns-then-not-seated-clause-unchanged t c =
    elim c.match-displaced.branch [
      | seat-in-None w ↦ λ f. absurd (false≢true (sym f ∙ w.seated-is))
      | seat-in-Some w ↦
          λ f. put_back c.args.holders.now c.args.column c.args.row c.match-displaced.holders c.match-displaced.displaced
          (w.holders-is ∙ w.place-seated.ensures.unchanged (sym w.seated-is ∙ f)) (w.displaced-is ∙ sym w.in-Some.is)
    ]

pub seat-returns-else-not-seated-clause-placed : goal.seat-returns-else-not-seated-clause-placed
seat-returns-else-not-seated-clause-placed t c =
    elim c.match-displaced.branch [
      | seat-in-None w ↦
          λ f. subst (λ hs. Places (cell c.args.square.now) c.args.holders.now hs c.args.seen.now c.args.row) (sym w.holders-is)
          (places_free (cell c.args.square.now) c.args.holders.now c.args.row c.args.column c.args.seen.now
          c.requires.matching c.requires.unplaced (omega arith) c.requires.positive w.in-None.is c.requires.unseen)
      | seat-in-Some w ↦
          λ f. subst (λ hs. Places (cell c.args.square.now) c.args.holders.now hs c.args.seen.now c.args.row) (sym w.holders-is)
          (places_moved (cell c.args.square.now) c.args.holders.now c.args.row c.args.column c.args.seen.now w.place-seated.new.holders w.in-Some.other
          (omega arith) (omega arith) w.in-Some.is c.requires.unseen (w.place-seated.ensures.placed (sym w.seated-is ∙ f)))
    ]

pub place-bounds-seen-column : goal.place-bounds-seen-column
place-bounds-seen-column t c =
    omega (
      arith,
      item_inside c.args.columns.now c.args.square.now.size (cell c.args.square.now) c.requires.listed c.args.row c.of-column-items.result.now c.of-column-items.ensures c.requires.row
          c.loop-column.column-index c.loop-column-test.true,
    )

pub place-get-requires-clause-column : goal.place-get-requires-clause-column
place-get-requires-clause-column t c =
    item_inside c.args.columns.now c.args.square.now.size (cell c.args.square.now) c.requires.listed c.args.row c.of-column-items.result.now c.of-column-items.ensures c.requires.row
    c.loop-column.column-index c.loop-column-test.true
