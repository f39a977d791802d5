use Rattle.std.proofs.Common.{sym, subst}
use Rattle.linear_program.specs.Duality.{IsBounded}
use Rattle.parts_tests.proofs.Bounds.{long_rows_bounded}
use Rattle.parts_tests.proofs.tests.optima.tells_where_a_pivot_overflows.Goals as goal

pub refuses-requires : goal.refuses-requires
refuses-requires c = subst IsBounded (sym c.in_ok-crossing.ensures) long_rows_bounded
