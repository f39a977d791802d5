use Rattle.std.proofs.Common.{rules}
use Rattle.text_lines.proofs.numbers.number_of.Goals as goal

pub returns-then-all_digits : goal.returns-then-all_digits
returns-then-all_digits c = search rules
