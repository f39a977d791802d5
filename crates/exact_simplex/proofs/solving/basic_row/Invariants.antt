use Rattle.std.proofs.Common.{◌≡◌}
use Rattle.exact_simplex.specs.Optima.{row_of}
use Rattle.exact_simplex.proofs.solving.basic_row.Given as goal

abbrev pub invariant-loop-row : goal.invariant-loop-row
invariant-loop-row g l = l.found ≡ row_of (g.T.Tableau.tableau l.tableau).basic l.row l.column
