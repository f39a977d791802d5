use Rattle.std.proofs.Common.{◌≡◌}
use Rattle.exact_simplex.specs.Optima.{first_terms, value_of}
use Rattle.exact_simplex.proofs.solving.values.Given as goal

abbrev pub invariant-loop-column : goal.invariant-loop-column
invariant-loop-column g l = l.values ≡ first_terms (value_of (g.T.Tableau.tableau l.tableau)) l.column
