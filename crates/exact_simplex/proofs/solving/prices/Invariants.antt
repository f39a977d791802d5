use Rattle.std.proofs.Common.{◌≡◌, ◌<◌, ◌^◌, nat_abs, All}
use Rattle.exact_simplex.specs.Optima.{first_terms, price_of}
use Rattle.exact_simplex.proofs.solving.prices.Given as goal

abbrev pub invariant-loop-row : goal.invariant-loop-row
invariant-loop-row g l = record {
  value : l.prices ≡ first_terms (price_of (g.T.Tableau.tableau l.tableau)) l.row;
  small : All (λ price. nat_abs price < 2 ^ 127) l.prices;
}
