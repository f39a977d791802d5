use Rattle.std.proofs.Common.{◌≡◌, ◌≤◌, ◌-◌, Some}
use Rattle.linear_program.specs.Tableaux.{IsCanonical, IsDerived}
use Rattle.exact_simplex.specs.Bland.{run_from, bland_run}
use Rattle.exact_simplex.specs.Answers.{tableau_after}
use Rattle.exact_simplex.proofs.bland.run.Given as goal

abbrev pub invariant-loop-column : goal.invariant-loop-column
invariant-loop-column g l = record {
  within : l.made ≤ l.limit;
  reached : run_from (l.limit - l.made) l.made (g.T.Tableau.tableau l.tableau) ≡ bland_run l.limit (g.T.Tableau.tableau l.fn.tableau);
  after : tableau_after l.made (g.T.Tableau.tableau l.fn.tableau) ≡ Some (g.T.Tableau.tableau l.tableau);
  canonical : IsCanonical (g.T.Tableau.tableau l.tableau);
  derived : IsDerived (g.T.Tableau.tableau l.fn.tableau) (g.T.Tableau.tableau l.tableau);
}

abbrev pub decreases-loop-column : goal.decreases-loop-column
decreases-loop-column g l = l.limit - l.made
