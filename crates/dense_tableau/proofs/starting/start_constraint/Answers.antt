use Rattle.std.proofs.Common.{rules, ◌≡◌, ℕ, ◌+◌, ◌-◌, ◌<◌, ℤ, pos, [], length, length-set, slice_index_or, slice_set, to_z, of_z, arith, refl, sym, ◌∙◌, ap, inl, inr, SFits}
use Rattle.std.specs.Int.{w128}
use Rattle.std.proofs.lemmas.Int.{to_z-of_z}
use Rattle.std.proofs.lemmas.Bool.{cases_eq, cases_lt, lt-ltb}
use Rattle.std.proofs.lemmas.List.{get_or_default}
use Rattle.std.proofs.lemmas.List.Elements.{All-get_or}
use Rattle.linear_program.specs.Programmes.{RowView, IsRow, row_at, cell_at}
use Rattle.linear_program.specs.Starts.{start_cell}
use Rattle.linear_program.proofs.Starts.{start_value, start_own, start_beside, start_last}
use Rattle.dense_tableau.specs.Flat.{entry}
use Rattle.dense_tableau.proofs.Entries.{entry_set, entry_beside, cell_at_beyond}
use Rattle.dense_tableau.proofs.starting.start_constraint.Goals as goal

pub returns-clause-cells : goal.returns-clause-cells
returns-clause-cells c j within =
    let p = c.args.lp.now in
    let i = c.args.row in
    let n = p.columns in
    let m = length p.rows in
    let inside : i < m = c.requires.row in
    let wide : length c.args.line.now ≡ n + m + 2 = c.requires.wide in
    let made = c.write_cells.new.row in
    let size : length made ≡ n + m + 2 = c.write_cells.ensures.length ∙ wide in
    let own = c.columns.result + i in
    let own_is : own ≡ n + i = ap (λ k. k + i) c.columns.ensures in
    let with_own = slice_set made own (pos 1) in
    let with_own_size : length with_own ≡ n + m + 2 = length-set made own (pos 1) ∙ size in
    let side = length with_own - 1 in
    let side_is : side ≡ n + m + 1 = omega (arith, with_own_size) in
    let value : ℤ = to_z w128 (of_z w128 c.rhs.result) in
    let none : RowView = record { cells = []; rhs = pos 0 } in
    let constraint : c.index-rows-row.result ≡ row_at p i = c.index-rows-row.is ∙ ap (λ rows. slice_index_or rows i c.index-rows-row.result) c.rows.ensures ∙ get_or_default p.rows i c.index-rows-row.result none inside in
    let row : IsRow n (row_at p i) = All-get_or (IsRow n) p.rows i none inside c.known.ensures.rows in
    let fits : SFits w128 c.rhs.result = search rules in
    let cells : (k : ℕ) → entry made k ≡ cell_at (row_at p i).cells k = λ k. c.write_cells.ensures.cells k ∙ ap (λ l. cell_at l k) (c.cells.ensures ∙ ap (λ r. r.cells) constraint) in
    elim (cases_eq j (n + m + 1)) [
      | inl same ↦
          ap (λ k. entry (slice_set with_own side value) k) (same ∙ sym side_is)
          ∙ entry_set with_own side value (omega (arith, with_own_size)) ∙ to_z-of_z _ _ fits ∙ c.rhs.ensures ∙ ap (λ r. r.rhs) constraint
          ∙ sym (ap (start_cell p i) same ∙ start_last p i (omega arith) ∙ rw (lt-ltb i m inside) refl)
      | inr before ↦
          entry_beside with_own side j value (λ e. before (e ∙ side_is))
          ∙ (elim (cases_eq j (n + i)) [
            | inl same ↦
                ap (entry with_own) (same ∙ sym own_is) ∙ entry_set made own (pos 1) (omega (arith, own_is, size)) ∙ sym (ap (start_cell p i) same ∙ start_own p i (omega arith))
            | inr beside ↦
                entry_beside made own j (pos 1) (λ e. beside (e ∙ own_is)) ∙ cells j
                ∙ (elim (cases_lt j n) [
                  | inl low ↦ sym (start_value p i j (omega arith) low ∙ rw (lt-ltb i m inside) refl)
                  | inr high ↦
                      let k = j - n in
                      let place : n + k ≡ j = omega (arith, high) in
                      cell_at_beyond (row_at p i).cells n j row.exist high
                      ∙ sym (ap (start_cell p i) (sym place) ∙ start_beside p i k (omega arith) (omega (arith, within, wide)) (λ e. beside (sym place ∙ ap (λ x. n + x) e)))
                ])
          ])
    ]
