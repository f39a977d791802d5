use Rattle.std.proofs.Common.{[], sym, ◌∙◌}
use Rattle.std.proofs.lemmas.List.{append-nil}
use Rattle.text_lines.specs.Lines.{words_of}
use Rattle.text_lines.proofs.FirstLines.{part_shorter}
use Rattle.text_lines.proofs.Words.{words_step, words_end, words_push}
use Rattle.text_lines.proofs.lines.words_of.Goals as goal

pub loop-word-smaller : goal.loop-word-smaller
loop-word-smaller c = part_shorter 32 c.loop-word.rest.now (c.in-Some.word.now, c.in-Some.left.now) c.in-Some.ensures

pub loop-word-preserved : goal.loop-word-preserved
loop-word-preserved c =
    rw c.in_ok-push.ensures.ok
    (words_push c.loop-word.words c.in-Some.word (words_of c.in-Some.left.now) (words_of c.loop-word.rest.now) (words_step c.loop-word.rest.now (c.in-Some.word.now, c.in-Some.left.now) c.in-Some.ensures)
    ∙ c.loop-word.invariant)

pub returns : goal.returns
returns c =
    rw c.in_ok-push-2.ensures.ok
    (sym (append-nil _) ∙ words_push c.loop-word.words c.loop-word.rest [] (words_of c.loop-word.rest.now) (words_end c.loop-word.rest.now c.in_default.ensures) ∙ c.loop-word.invariant)
