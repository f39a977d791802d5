use Rattle.std.proofs.Common.{◌≡◌, [], length, drop, ap, ◌∙◌, subst, arith}
use Rattle.std.proofs.lemmas.List.{append-nil}
use Rattle.std.proofs.Math.Seq.{drop-length}
use Rattle.plan_text.specs.Reading.{ArePieceWords}
use Rattle.plan_text.proofs.RowHeads.{said}
use Rattle.plan_text.proofs.rows.pieces_in.Goals as goal

pub returns : goal.returns
returns c =
    let words = c.args.words.now in
    let at_end : c.loop-word.word-index ≡ length words = omega (arith, c.loop-word-test.false, c.loop-word.auto.word-index-end) in
    let over : drop c.loop-word.word-index words ≡ [] = ap (λ k. drop k words) at_end ∙ drop-length words in
    subst (λ pieces. ArePieceWords (said words) pieces) (append-nil c.loop-word.pieces) (c.loop-word.invariant.there [] (rw over tt))
