use Rattle.std.proofs.Common.{rules, ◌≡◌, ◌≢◌, ◌+◌, ◌++◌, ◌∷◌, [], true, pos, subst, sym}
use Rattle.programme_rows.specs.Cells.{AreCells}
use Rattle.programme_rows.proofs.Cells.{cell_more}
use Rattle.programme_rows.proofs.rows.push_cell.Goals as goal

pub returns-in_ok-push-clause-value : goal.returns-in_ok-push-clause-value
returns-in_ok-push-clause-value c = search rules

pub returns-in_ok-push-clause-cells : goal.returns-in_ok-push-clause-cells
returns-in_ok-push-clause-cells c = λ before.
    let some : c.args.cell ≢ pos 0 = search rules in
    let more : c.push.new.self ≡ c.args.cells.now ++ (c.args.column, c.args.cell) ∷ [] = search rules in
    subst (λ cells. AreCells (c.args.column + 1) cells) (sym more) (cell_more c.args.column c.args.cell true c.args.cells.now (λ e. some) c.requires.small before)
