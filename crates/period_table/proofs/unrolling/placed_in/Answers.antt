use Rattle.std.proofs.Common.{◌≤◌, arith}
use Rattle.period_table.proofs.Lengths.{length_of_period}
use Rattle.period_table.proofs.unrolling.placed_in.Goals as goal

pub place_period-requires-clause-few : goal.place_period-requires-clause-few
place_period-requires-clause-few c =
    let part = length_of_period c.args.timed.now c.args.series c.args.table.now c.loop-period.period c.args.periods c.loop-period-test.true in
    less _ _ part c.requires.short
  where
    less : (p a : _) → p ≤ a → a ≤ 4000000 → p ≤ 4000000
    less p a l h = omega arith
