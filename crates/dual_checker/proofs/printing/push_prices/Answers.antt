use Rattle.std.proofs.Common.{rules, ◌≡◌, ◌++◌, pos, take, slice_index_or, string_bytes, sym, ap, ◌∙◌, SFits}
use Rattle.std.specs.Int.{w128}
use Rattle.std.specs.Fmt.{signed_decimal}
use Rattle.std.proofs.lemmas.Int.{to_z-of_z}
use Rattle.std.proofs.lemmas.List.{append_assoc}
use Rattle.text_lines.specs.Lines.{line}
use Rattle.dual_checker.specs.Texts.{price_word, prices_text}
use Rattle.dual_checker.proofs.Parts.{prices_more}
use Rattle.dual_checker.proofs.printing.push_prices.Goals as goal

pub loop-row-preserved : goal.loop-row-preserved
loop-row-preserved c =
    let prices = c.args.prices.now in
    let row = c.loop-row.row in
    let fits : SFits w128 (slice_index_or prices row (pos 0)) = search rules in
    let pushed : string_bytes c.push_price.new.out ≡ string_bytes c.loop-row.out ++ line (price_word row ++ signed_decimal (slice_index_or prices row (pos 0))) =
    rw (to_z-of_z _ _ fits) at c.in_ok-push_price.ensures in
    pushed ∙ ap (λ text. text ++ line (price_word row ++ signed_decimal (slice_index_or prices row (pos 0)))) c.loop-row.invariant
    ∙ append_assoc (string_bytes c.args.out.now) (prices_text 0 (take row prices)) (line (price_word row ++ signed_decimal (slice_index_or prices row (pos 0))))
    ∙ ap (λ text. string_bytes c.args.out.now ++ text) (sym (prices_more prices row c.loop-row-test.true))
