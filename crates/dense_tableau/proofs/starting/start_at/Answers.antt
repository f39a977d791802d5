use Rattle.std.proofs.Common.{◌+◌, ◌-◌, ◌*◌, ◌≤◌, length, arith, ◌∙◌}
use Rattle.dense_tableau.proofs.Flat.{lent, written_there, written_beside}
use Rattle.dense_tableau.proofs.starting.start_at.Goals as goal

pub returns-clause-beside : goal.returns-clause-beside
returns-clause-beside c i j apart =
    let w = c.args.width in
    let o = c.args.row in
    let k = o * w + w - o * w in
    let whole : o * w + w ≤ length c.args.cells.now = omega (arith, c.requires.within) in
    let line = lent w c.args.cells.now o k (omega arith) whole in
    written_beside w c.args.cells.now o k c.start_row.new.line i j (omega arith) (c.start_row.ensures.length ∙ line.0) whole apart

pub returns-clause-there : goal.returns-clause-there
returns-clause-there c j within =
    let w = c.args.width in
    let o = c.args.row in
    let k = o * w + w - o * w in
    let whole : o * w + w ≤ length c.args.cells.now = omega (arith, c.requires.within) in
    let line = lent w c.args.cells.now o k (omega arith) whole in
    written_there w c.args.cells.now o k c.start_row.new.line j (c.start_row.ensures.length ∙ line.0) whole within ∙ c.start_row.ensures.cells j (rw line.0 within)
