use Rattle.std.proofs.Common.{rules}
use Rattle.text_lines.proofs.numbers.is_plain.Goals as goal

pub returns-else-text-eq1 : goal.returns-else-text-eq1
returns-else-text-eq1 c = search rules
