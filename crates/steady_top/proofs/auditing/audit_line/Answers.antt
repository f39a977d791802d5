use Rattle.std.proofs.Common.{rules, ◌≡◌, ◌++◌, [], codes, decimal, string_bytes}
use Rattle.text_lines.specs.Lines.{line}
use Rattle.steady_top.proofs.Works.{line_in_parts}
use Rattle.steady_top.proofs.auditing.audit_line.Goals as goal

pub returns : goal.returns
returns c =
    let start : string_bytes c.new-out.result ≡ [] = search rules in
    let first : string_bytes c.push_periods.new.out ≡ string_bytes c.new-out.result ++ (codes "audit 1 periods " ++ decimal c.args.periods) = search rules in
    let second : string_bytes c.push_ticks.new.out ≡ string_bytes c.push_periods.new.out ++ (codes " ticks " ++ decimal c.args.ticks) = search rules in
    let third : string_bytes c.push_count.new.out ≡ string_bytes c.push_ticks.new.out ++ line (codes " completed " ++ decimal c.args.count) = search rules in
    line_in_parts (codes "audit 1 periods ") (decimal c.args.periods) (codes " ticks ") (decimal c.args.ticks) (codes " completed ") (decimal c.args.count) start first second third
