use Rattle.std.proofs.Common.{rules, ◌≡◌, ◌++◌, codes, decimal, length, string_bytes, ◌∙◌}
use Rattle.std.proofs.lemmas.List.{append_assoc}
use Rattle.std.specs.Fmt.{signed_decimal}
use Rattle.text_lines.specs.Lines.{line}
use Rattle.dual_checker.specs.Texts.{header_text, prices_text}
use Rattle.dual_checker.proofs.Parts.{in_order}
use Rattle.dual_checker.proofs.printing.push_certificate.Goals as goal

pub returns : goal.returns
returns c =
    let certificate = c.args.certificate.now in
    let before = string_bytes c.args.out.now in
    let first : string_bytes c.push_header.new.out ≡ before ++ line (header_text c.args.series) = search rules in
    let second : string_bytes c.push_rows.new.out ≡ string_bytes c.push_header.new.out ++ line (codes "rows " ++ decimal (length certificate.prices)) = search rules in
    let third : string_bytes c.push_scale.new.out ≡ string_bytes c.push_rows.new.out ++ line (codes "scale " ++ signed_decimal certificate.scale) = search rules in
    let fourth : string_bytes c.push_best.new.out ≡ string_bytes c.push_scale.new.out ++ line (codes "best " ++ signed_decimal certificate.best) = search rules in
    let fifth : string_bytes c.push_prices.new.out ≡ string_bytes c.push_best.new.out ++ prices_text 0 certificate.prices = search rules in
    let sixth : string_bytes c.push_str.new.self ≡ string_bytes c.push_prices.new.out ++ line (codes "end") = search rules in
    in_order (before ++ line (header_text c.args.series)) (line (codes "rows " ++ decimal (length certificate.prices))) (line (codes "scale " ++ signed_decimal certificate.scale))
    (line (codes "best " ++ signed_decimal certificate.best)) (prices_text 0 certificate.prices) (line (codes "end")) first second third fourth fifth sixth
    ∙ append_assoc before (line (header_text c.args.series)) _
