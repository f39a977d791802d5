use Rattle.std.proofs.Common.{rules, ◌≡◌, ◌+◌, ◌<◌, length, Ok, codes, ◌∙◌}
use Rattle.dual_checker.specs.Reading.{after_text, prices_of}
use Rattle.dual_checker.proofs.Parts.{prices_read, left_over}
use Rattle.dual_checker.proofs.reading.read_priced.Goals as goal

pub returns-else-is_empty-clause-value : goal.returns-else-is_empty-clause-value
returns-else-is_empty-clause-value c =
    let rows = c.args.rows in
    let some : 0 < length c.in_ok-rest-2.rest.now = search rules in
    let number : c.from-end.result ≡ rows = search rules in
    let end : after_text (rows + 5) (codes "end") c.in_ok-rest.rest.now ≡ Ok c.in_ok-rest-2.rest.now = search rules in
    let prices : prices_of rows c.args.bytes.now ≡ Ok (c.read_prices.new.prices, c.in_ok-rest.rest.now) = search rules in
    rw number (prices_read rows c.args.bytes.now _ _ c.args.scale c.args.best c.read_prices.new.prices prices end ∙ left_over (rows + 5) _ _ some)

pub returns-then-is_empty-clause-value : goal.returns-then-is_empty-clause-value
returns-then-is_empty-clause-value c = search rules
