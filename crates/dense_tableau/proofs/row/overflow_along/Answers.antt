use Rattle.std.proofs.Common.{rules, ◌≡◌, ◌<◌, false, true, cond, nat_eq, is_none, length, arith, sym, ◌∙◌, SFits}
use Rattle.std.specs.Int.{w128}
use Rattle.std.proofs.lemmas.Int.{to_z-of_z}
use Rattle.std.proofs.lemmas.Bool.{ne_eqb}
use Rattle.linear_program.specs.Sizes.{fitting_combination}
use Rattle.linear_program.proofs.Searches.{first_found}
use Rattle.dense_tableau.specs.Flat.{entry}
use Rattle.dense_tableau.proofs.row.overflow_along.Goals as goal

pub returns-then-overflows_at : goal.returns-then-overflows_at
returns-then-overflows_at c =
    let row = c.args.row.now in
    let j = c.loop-j.j in
    let within : j < length row = omega (arith, c.loop-j-test.true) in
    let cell : SFits w128 (entry row j) = search rules in
    let pivot_cell : SFits w128 (entry c.args.pivot_row.now j) = search rules in
    let here : is_none (fitting_combination c.args.by.now.own (entry row j) c.args.by.now.pivot (entry c.args.pivot_row.now j)) ≡ true =
    rw (to_z-of_z _ _ cell, to_z-of_z _ _ pivot_cell) at (sym c.overflows_at.ensures ∙ c.if-overflows_at.true) in
    sym (first_found (length row) j (λ k. cond (nat_eq k c.args.column) false (is_none (fitting_combination c.args.by.now.own (entry row k) c.args.by.now.pivot (entry c.args.pivot_row.now k)))) within c.loop-j.invariant
    (rw (ne_eqb j c.args.column c.if-j-column.true) here))
