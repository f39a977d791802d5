use Rattle.std.proofs.Common.{◌≡◌, None, pos}
use Rattle.std.specs.Prelude.{int_lt}
use Rattle.linear_program.specs.Pivots.{first_below}
use Rattle.dual_checker.specs.Verdicts.{price_at}
use Rattle.dual_checker.proofs.checking.negative_price.Given as goal

abbrev pub invariant-loop-row : goal.invariant-loop-row
invariant-loop-row l = first_below l.row (λ k. int_lt (price_at l.prices k) (pos 0)) ≡ None
