use Rattle.std.proofs.Common.{◌≡◌, ℕ, ◌+◌, ◌*◌, ◌++◌, take, drop, length, slice_index_or, arith, refl, sym, ◌∙◌, ap, inl, inr}
use Rattle.std.proofs.lemmas.Bool.{cases_lt, lt-ltb, le-ltb}
use Rattle.std.proofs.lemmas.List.{get_or_past, with_items_is}
use Rattle.linear_program.specs.Starts.{start_cell, start_tableau}
use Rattle.linear_program.proofs.Changes.{same_tableau}
use Rattle.linear_program.proofs.Starts.{start_beyond}
use Rattle.dense_tableau.specs.Flat.{cell_of}
use Rattle.dense_tableau.proofs.Flat.{cell_beyond, no_row}
use Rattle.dense_tableau.proofs.dense.DenseTableau.start.Goals as goal

pub returns : goal.returns
returns c =
    let p = c.args.lp.now in
    let n = p.columns in
    let m = length p.rows in
    let w = n + m + 2 in
    let columns : c.columns-columns.result ≡ n = c.columns-columns.ensures in
    let rows : length c.rows.result.now ≡ m = ap length c.rows.ensures in
    let wide : c.columns-columns.result + length c.rows.result.now + 2 ≡ w = omega (arith, columns, rows) in
    let new = c.write_start.new.cells in
    let basics = c.in_ok-basics.basics.items in
    let length_new : length new ≡ c.in_ok-cells.cells.len = c.write_start.ensures.length ∙ c.as_mut_slice.ensures.len in
    let kept = with_items_is c.in_ok-cells.cells new length_new in
    let cells = take c.in_ok-cells.cells.len (new ++ drop (length new) c.in_ok-cells.cells.items) in
    let size : length new ≡ (m + 1) * w = length_new ∙ c.in_ok-cells.ensures.len ∙ rw (columns, rows) refl in
    let place : (i j : ℕ) → cell_of (c.columns-columns.result + length c.rows.result.now + 2) cells i j ≡ start_cell p i j =
    λ i j. ap (λ k. cell_of k cells i j) wide ∙ ap (λ l. cell_of w l i j) kept
    ∙ (elim (cases_lt j w) [
      | inr past ↦ cell_beyond w new i j past ∙ sym (start_beyond p i j past)
      | inl within ↦
          elim (cases_lt i (m + 1)) [
            | inl inside ↦ ap (λ k. cell_of k new i j) (sym wide) ∙ c.write_start.ensures.cells i j (omega (arith, inside)) (rw wide within)
            | inr beyond ↦ no_row w (m + 1) new i j size beyond ∙ sym (rw (lt-ltb m i (omega (arith, beyond))) refl)
          ]
    ]) in
    let basic : (i : ℕ) → slice_index_or basics i 0 ≡ (start_tableau p).basic i =
    λ i. elim (cases_lt m i) [
      | inl past ↦ get_or_past basics i 0 (omega (arith, c.in_ok-basics.ensures.length, past)) ∙ sym (rw (lt-ltb m i past) refl)
      | inr inside ↦ c.in_ok-basics.ensures.basics i inside ∙ sym (rw (le-ltb m i inside) refl)
    ] in
    same_tableau _ (start_tableau p) columns rows place basic
