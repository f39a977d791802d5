use Rattle.std.proofs.Common.{sym, arith}
use Rattle.platform_file.proofs.Units.{is_short, is_timed}
use Rattle.platform_file.proofs.scaling.timed.Goals as goal

pub overflow_cast-unit : goal.overflow_cast-unit
overflow_cast-unit c = let short = is_short c.multiples_are_least.ensures c.args.platform c.known.ensures c.in_ok-unit.field-0 (sym c.in_ok-unit.ensures) in omega (arith, short)

pub new-requires : goal.new-requires
new-requires c =
    rw (c.in_ok-times.ensures.times, c.in_ok-times.ensures.costs)
    (is_timed c.multiples_are_least.ensures c.args.platform c.known.ensures c.in_ok-unit.field-0 (sym c.in_ok-unit.ensures))
