use Rattle.std.proofs.Common.{◌≡◌, cond, nat_eq, false, is_none, None}
use Rattle.linear_program.specs.Sizes.{fitting_combination}
use Rattle.linear_program.specs.Pivots.{first_below}
use Rattle.dense_tableau.specs.Flat.{entry}
use Rattle.dense_tableau.proofs.row.overflow_along.Given as goal

abbrev pub invariant-loop-j : goal.invariant-loop-j
invariant-loop-j l =
    first_below l.j (λ j. cond (nat_eq j l.column) false (is_none (fitting_combination l.by.own (entry l.row j) l.by.pivot (entry l.pivot_row j)))) ≡ None
