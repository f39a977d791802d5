use Rattle.std.proofs.Common.{rules, ◌≡◌, ℕ, ◌+◌, ◌^◌, ◌<◌, ◌≤◌, true, false, nat_lt, All, sym, subst, arith}
use Rattle.std.proofs.lemmas.Bool.Decides.{nat_tests}
use Rattle.period_table.specs.Lanes.{lanes_of}
use Rattle.period_table.specs.Counts.{sends_below, computes_below}
use Rattle.period_table.proofs.Lengths.{length_below}
use Rattle.period_table.proofs.FittingTables.{lanes_bounded}
use Rattle.period_table.proofs.unrolling.unroll.Goals as goal

pub is_too_long-requires-clause-lanes : goal.is_too_long-requires-clause-lanes
is_too_long-requires-clause-lanes c =
    let is : c.as_slice-2.result.now ≡ lanes_of c.args.table.now.routes = search rules in
    subst (λ lanes. All (λ lane. lane.count ≤ 2 ^ 100) lanes) (sym is) (lanes_bounded c.args.timed.now c.args.series c.args.table.now c.requires.fits)

pub returns-then-is_too_long-clause-fault : goal.returns-then-is_too_long-clause-fault
returns-then-is_too_long-clause-fault c =
    let t = c.args.timed.now in let table = c.args.table.now in
    let long : nat_lt 4000000 (computes_below c.args.series table.routes c.args.periods + sends_below (lanes_of table.routes) c.args.periods) ≡ true = search rules in
    let all = length_below t c.args.series table c.requires.fits c.args.periods in
    more _ _ all long
  where
    more : (a b : _) → a ≡ b → nat_lt 4000000 b ≡ true → 4000000 < a
    more a b e h = rw e (grind (arith, nat_tests))

-- the operations that aren't too many
short_below : (a b : ℕ) → a ≡ b → nat_lt 4000000 b ≡ false → a ≤ 4000000
short_below a b e h = rw e (grind (arith, nat_tests))

pub laid_out-requires-clause-short : goal.laid_out-requires-clause-short
laid_out-requires-clause-short c =
    let table = c.args.table.now in
    let short : nat_lt 4000000 (computes_below c.args.series table.routes c.args.periods + sends_below (lanes_of table.routes) c.args.periods) ≡ false = search rules in
    short_below _ _ (length_below c.args.timed.now c.args.series table c.requires.fits c.args.periods) short

pub returns-clause-short : goal.returns-clause-short
returns-clause-short c =
    let table = c.args.table.now in
    let short : nat_lt 4000000 (computes_below c.args.series table.routes c.args.periods + sends_below (lanes_of table.routes) c.args.periods) ≡ false = search rules in
    short_below _ _ (length_below c.args.timed.now c.args.series table c.requires.fits c.args.periods) short
