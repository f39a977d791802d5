use Rattle.std.proofs.Common.{◌≡◌}
use Rattle.linear_program.specs.Programmes.{row_at}
use Rattle.dual_checker.specs.Verdicts.{fitting_sum}
use Rattle.dual_checker.proofs.checking.side_sum.Given as goal

abbrev pub invariant-loop-row : goal.invariant-loop-row
invariant-loop-row l = fitting_sum l.prices (λ i. (row_at l.lp i).rhs) l.row ≡ l.sum
