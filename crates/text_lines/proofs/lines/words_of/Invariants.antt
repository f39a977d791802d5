use Rattle.std.proofs.Common.{◌≡◌, ◌++◌, length, map}
use Rattle.text_lines.specs.Lines.{words_of}
use Rattle.text_lines.proofs.lines.words_of.Given as goal

abbrev pub invariant-loop-word : goal.invariant-loop-word
invariant-loop-word l = map (λ word. word.now) l.words ++ words_of l.rest ≡ words_of l.text

abbrev pub decreases-loop-word : goal.decreases-loop-word
decreases-loop-word l = length l.rest
