use Rattle.text_lines.proofs.Digits.{read_as_printed}
use Rattle.text_lines.proofs.laws.numbers_are_read_as_printed.Goals as goal

pub returns : goal.returns
returns c = read_as_printed
