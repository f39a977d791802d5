use Rattle.std.proofs.Common.{rules, ◌≡◌, pos, length, true, sym, slice_index_or, SFits}
use Rattle.std.specs.Prelude.{int_lt}
use Rattle.std.specs.Int.{w128}
use Rattle.std.proofs.lemmas.Int.{to_z-of_z}
use Rattle.linear_program.proofs.Searches.{first_found}
use Rattle.dual_checker.specs.Verdicts.{price_at}
use Rattle.dual_checker.proofs.checking.negative_price.Goals as goal

pub returns-then-prices-row-lt0 : goal.returns-then-prices-row-lt0
returns-then-prices-row-lt0 c =
    let prices = c.args.prices.now in
    let row = c.loop-row.row in
    let fits : SFits w128 (slice_index_or prices row (pos 0)) = search rules in
    let below : int_lt (price_at prices row) (pos 0) ≡ true = rw (to_z-of_z _ _ fits) at c.if-prices-row-lt0.true in
    sym (first_found (length prices) row (λ k. int_lt (price_at prices k) (pos 0)) c.loop-row-test.true c.loop-row.invariant below)

pub loop-row-init : goal.loop-row-init
loop-row-init c = search rules
