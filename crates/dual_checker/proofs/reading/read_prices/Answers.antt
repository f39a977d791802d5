use Rattle.std.proofs.Common.{rules, ◌≡◌, ◌+◌, ◌<◌, ◌^◌, ◌++◌, [], ◌∷◌, suc, length, nat_abs, All, Ok, Err, add-one, sym, ap, ◌∙◌, subst, SFits}
use Rattle.std.specs.Int.{w128}
use Rattle.std.proofs.lemmas.Int.{to_z-of_z}
use Rattle.std.proofs.lemmas.List.{length-append}
use Rattle.std.proofs.lemmas.List.Elements.{All-push}
use Rattle.dual_checker.specs.Texts.{price_word}
use Rattle.dual_checker.specs.Reading.{number_after, least_price, prices_of}
use Rattle.dual_checker.proofs.Parts.{is_fault, prices_fail, price_fails, price_read}
use Rattle.dual_checker.proofs.reading.read_prices.Goals as goal

pub returns-in-Err-clause-value : goal.returns-in-Err-clause-value
returns-in-Err-clause-value c =
    let row = c.loop-row.row in
    let read : number_after (row + 5) (price_word row) least_price c.loop-row.rest.now ≡ Err c.in-Err.fault = search rules in
    is_fault c.in-Err.fault (prices_of c.args.rows c.args.bytes.now)
    (prices_fail c.args.bytes.now (suc row) c.args.rows c.in-Err.fault c.loop-row-test.true (price_fails c.args.bytes.now c.loop-row.rest.now c.loop-row.prices row c.in-Err.fault c.loop-row.invariant.value read))

pub loop-row-preserved : goal.loop-row-preserved
loop-row-preserved c =
    let row = c.loop-row.row in
    let price = c.in-Ok.price in
    let fits : SFits w128 price = search rules in
    let read : number_after (row + 5) (price_word row) least_price c.loop-row.rest.now ≡ Ok (price, c.in-Ok.left.now) = search rules in
    let pushed : c.push.new.self ≡ c.loop-row.prices ++ price ∷ [] = rw (to_z-of_z _ _ fits) at c.in_ok-push-in-Ok.ensures.ok in
    let small : nat_abs price < 2 ^ 127 = search rules in
    record {
      value = rw (add-one, pushed) (price_read c.args.bytes.now c.loop-row.rest.now c.in-Ok.left.now c.loop-row.prices row price c.loop-row.invariant.value read);
      small = subst (λ prices. All (λ price. nat_abs price < 2 ^ 127) prices) (sym pushed) (All-push (λ price. nat_abs price < 2 ^ 127) c.loop-row.prices price c.loop-row.invariant.small small);
      rows = ap length pushed ∙ length-append c.loop-row.prices (price ∷ []) ∙ ap (λ n. n + 1) c.loop-row.invariant.rows;
    }
