use Rattle.std.proofs.Common.{◌≡◌, ◌++◌, drop}
use Rattle.parts_tests.proofs.tests.models.listed_of.Given as goal

abbrev pub invariant-loop-item : goal.invariant-loop-item
invariant-loop-item g l = l.list ++ drop l.item-index l.items ≡ l.items
