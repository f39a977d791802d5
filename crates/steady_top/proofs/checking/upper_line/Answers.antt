use Rattle.std.proofs.Common.{rules, ◌≡◌, ◌++◌, [], codes, decimal, string_bytes}
use Rattle.std.specs.Fmt.{signed_decimal}
use Rattle.text_lines.specs.Lines.{line}
use Rattle.steady_top.proofs.Works.{line_in_parts}
use Rattle.steady_top.proofs.checking.upper_line.Goals as goal

pub returns : goal.returns
returns c =
    let t = c.args.timed.now in
    let certificate = c.args.certificate.now in
    let start : string_bytes c.new-out.result ≡ [] = search rules in
    let first : string_bytes c.push_best.new.out ≡ string_bytes c.new-out.result ++ (codes "upper " ++ signed_decimal certificate.best) = search rules in
    let second : string_bytes c.push_scale.new.out ≡ string_bytes c.push_best.new.out ++ (codes " tasks per " ++ signed_decimal certificate.scale) = search rules in
    let third : string_bytes c.push_unit.new.out ≡ string_bytes c.push_scale.new.out ++ line (codes " ticks, unit " ++ decimal t.unit) = search rules in
    line_in_parts (codes "upper ") (signed_decimal certificate.best) (codes " tasks per ") (signed_decimal certificate.scale) (codes " ticks, unit ") (decimal t.unit) start first second third
