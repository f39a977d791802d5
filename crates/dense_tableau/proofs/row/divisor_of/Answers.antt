use Rattle.std.proofs.Common.{rules, ◌≡◌, ◌+◌, ◌-◌, ◌<◌, ◌^◌, nat_abs, length, arith, sym, ◌∙◌, ap, add-one}
use Rattle.ratio_core.specs.Fraction.{gcd_of}
use Rattle.ratio_core.proofs.GcdLemmas.{gcd_below}
use Rattle.linear_program.specs.Pivots.{row_divisor}
use Rattle.linear_program.proofs.Skips.{row_stays_one}
use Rattle.dense_tableau.specs.Flat.{entry}
use Rattle.dense_tableau.proofs.row.divisor_of.Goals as goal

pub loop-cell-preserved : goal.loop-cell-preserved
loop-cell-preserved c =
    let row = c.args.row.now in
    let k = c.loop-cell.cell-index in
    let small : nat_abs (entry row k) < 2 ^ 127 = c.requires k (omega (arith, c.loop-cell-test.true)) in
    let size : c.unsigned_abs.result ≡ nat_abs (entry row k) = search rules in
    let value : c.common_divisor-divisor.result ≡ gcd_of (row_divisor k (entry row)) (nat_abs (entry row k)) =
    c.common_divisor-divisor.ensures ∙ ap (λ n. gcd_of n c.unsigned_abs.result) c.loop-cell.invariant.value ∙ ap (gcd_of (row_divisor k (entry row))) size in
    record {
      value = rw add-one value;
      fits = rw c.common_divisor-divisor.ensures (gcd_below c.loop-cell.divisor c.unsigned_abs.result (2 ^ 127) c.loop-cell.invariant.fits (rw size small));
    }

pub returns-then-divisor-eq1-clause-value : goal.returns-then-divisor-eq1-clause-value
returns-then-divisor-eq1-clause-value c =
    let row = c.args.row.now in
    let k = c.loop-cell.cell-index in
    let size : c.unsigned_abs.result ≡ nat_abs (entry row k) = search rules in
    let value : c.common_divisor-divisor.result ≡ gcd_of (row_divisor k (entry row)) (nat_abs (entry row k)) =
    c.common_divisor-divisor.ensures ∙ ap (λ n. gcd_of n c.unsigned_abs.result) c.loop-cell.invariant.value ∙ ap (gcd_of (row_divisor k (entry row))) size in
    let one : row_divisor (k + 1) (entry row) ≡ 1 = rw add-one (sym value ∙ c.if-divisor-eq1.true) in
    let rest : k + 1 + (length row - (k + 1)) ≡ length row = omega (arith, c.loop-cell-test.true) in
    sym (ap (λ n. row_divisor n (entry row)) (sym rest) ∙ row_stays_one (k + 1) (length row - (k + 1)) (entry row) one)
