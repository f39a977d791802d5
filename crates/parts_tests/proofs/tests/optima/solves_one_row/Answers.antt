use Rattle.std.proofs.Common.{sym, subst}
use Rattle.linear_program.specs.Duality.{IsBounded}
use Rattle.parts_tests.proofs.Bounds.{one_row_bounded}
use Rattle.parts_tests.proofs.tests.optima.solves_one_row.Goals as goal

pub solves-requires : goal.solves-requires
solves-requires c = subst IsBounded (sym c.in_ok-halves.ensures) one_row_bounded
