use Rattle.std.proofs.Common.{◌≡◌}
use Rattle.linear_program.specs.Programmes.{cell_at, row_at}
use Rattle.dual_checker.specs.Verdicts.{fitting_sum}
use Rattle.dual_checker.proofs.checking.column_sum.Given as goal

abbrev pub invariant-loop-row : goal.invariant-loop-row
invariant-loop-row l = fitting_sum l.prices (λ i. cell_at (row_at l.lp i).cells l.column) l.row ≡ l.sum
