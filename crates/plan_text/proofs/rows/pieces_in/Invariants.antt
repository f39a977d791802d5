use Rattle.std.proofs.Common.{List, ◌++◌, map, drop}
use Rattle.period_table.specs.declared.table.Piece.{Piece}
use Rattle.plan_text.specs.Reading.{ArePieceWords}
use Rattle.plan_text.proofs.rows.pieces_in.Given as goal

abbrev pub invariant-loop-word : goal.invariant-loop-word
invariant-loop-word l = record {
  there : (rest : List Piece) → ArePieceWords (map (λ word. word.now) (drop l.word-index l.words)) rest → ArePieceWords (map (λ word. word.now) l.words) (l.pieces ++ rest);
  back : (pieces : List Piece) → ArePieceWords (map (λ word. word.now) l.words) pieces → (rest : List Piece) × ArePieceWords (map (λ word. word.now) (drop l.word-index l.words)) rest;
}
