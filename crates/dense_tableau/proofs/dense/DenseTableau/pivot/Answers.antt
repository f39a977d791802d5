use Rattle.std.proofs.Common.{◌≡◌, ◌+◌, length, slice_set, refl, sym, ◌∙◌, ap}
use Rattle.std.proofs.lemmas.List.{with_items_is}
use Rattle.dense_tableau.specs.Flat.{cell_of, flat_width}
use Rattle.dense_tableau.proofs.Written.{pivoted_lists}
use Rattle.dense_tableau.proofs.dense.DenseTableau.pivot.Goals as goal

pub returns-clause-ok : goal.returns-clause-ok
returns-clause-ok c =
    let f = c.args.self.now in
    let r = c.args.row in
    let column = c.args.column in
    let w = flat_width f in
    let made = c.in_default.ensures in
    let new = c.pivot_cells.new.cells in
    let lists : c.as_mut_slice.result.now ≡ f.cells = c.as_mut_slice.ensures.value ∙ ap (λ g. g.cells) c.self.view_is in
    let wide : c.columns-width.result ≡ w = c.columns-width.ensures in
    let counted : c.rows-rows.result ≡ f.constraints + 1 = c.rows-rows.ensures in
    let whole : length new ≡ c.self.inside.cells.len = made.length ∙ ap length c.as_mut_slice.ensures.value ∙ sym c.self.inside.cells.ok.0 in
    let cells = with_items_is c.self.inside.cells new whole in
    pivoted_lists f (record { values = _; constraints = _; cells = _; basics = _; columns = f.columns }) r column c.known.ensures c.requires.row
    record {
      values = ap (λ g. g.values) c.self.view_is;
      constraints = ap (λ g. g.constraints) c.self.view_is;
      fits = rw (wide, lists, counted) at (sym made.place);
      size = ap length cells ∙ made.length ∙ ap length lists;
      kept = λ j. ap (λ l. cell_of w l r j) cells ∙ (rw (wide, lists) at (made.kept refl j));
      changed = λ i j l apart. ap (λ l. cell_of w l i j) cells ∙ (rw (wide, lists) at (made.changed refl i j (rw counted l) apart));
      basics = ap (λ g. slice_set g.basics r column) c.self.view_is;
    }
