use Rattle.std.proofs.Common.{◌≡◌, None}
use Rattle.dual_checker.specs.Verdicts.{first_fault}
use Rattle.dual_checker.proofs.checking.first_fault.Given as goal

abbrev pub invariant-loop-column : goal.invariant-loop-column
invariant-loop-column l = first_fault l.lp l.certificate l.column ≡ None
