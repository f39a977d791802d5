use Rattle.std.proofs.Common.{rules, ◌≡◌, ◌≤◌, ℤ, pos, negsuc, ◌<ℤ◌, nat_abs, arith, sym, SFits}
use Rattle.std.specs.Int.{w128}
use Rattle.std.proofs.lemmas.Grind.{common_steps}
use Rattle.std.proofs.lemmas.Int.{ints, to_z-of_z}
use Rattle.exact_simplex.proofs.Ends.{row_there}
use Rattle.exact_simplex.proofs.solving.value.Goals as goal

some_size : (z : ℤ) → pos 0 <ℤ z → 1 ≤ nat_abs z
some_size (pos n) h = omega (arith, ints)
some_size (negsuc n) h = omega arith

pub cell-requires-clause-row : goal.cell-requires-clause-row
cell-requires-clause-row g c =
    let t = g.T.Tableau.tableau c.args.tableau.now in
    let there = row_there t.basic t.constraints c.args.column c.in-Some.row (sym c.in-Some.ensures) in
    omega (arith, there.0)

pub cell-requires-in-Some-clause-row : goal.cell-requires-in-Some-clause-row
cell-requires-in-Some-clause-row g c =
    let t = g.T.Tableau.tableau c.args.tableau.now in
    let there = row_there t.basic t.constraints c.args.column c.in-Some.row (sym c.in-Some.ensures) in
    omega (arith, there.0)

pub new-requires : goal.new-requires
new-requires g c =
    let t = g.T.Tableau.tableau c.args.tableau.now in
    let there = row_there t.basic t.constraints c.args.column c.in-Some.row (sym c.in-Some.ensures) in
    let inside : c.in-Some.row ≤ t.constraints = omega (arith, there.0) in
    let own : pos 0 <ℤ t.cell c.in-Some.row c.args.column = rw there.1 at (c.requires.canonical.own_positive c.in-Some.row inside) in
    let fits : SFits w128 c.cell-in-Some.result = search rules in
    let size : c.unsigned_abs-in-Some.result ≡ nat_abs (t.cell c.in-Some.row c.args.column) = rw (to_z-of_z _ _ fits, c.cell-in-Some.ensures) at c.unsigned_abs-in-Some.ensures.value in
    rw size (some_size _ own)

pub returns-in-Some : goal.returns-in-Some
returns-in-Some g c = first_of (search rules, grind (arith, common_steps))
