-- The pieces of a slot's words, one by one.
use Rattle.std.proofs.Common.{◌≡◌, ℕ, suc, ◌+◌, ◌<◌, Bor, List, [], ◌∷◌, length, drop, get_or, sym, ap, ◌∙◌, subst, arith}
use Rattle.std.proofs.Math.Seq.{drop-cons}
use Rattle.period_table.specs.declared.table.Piece.{Piece}
use Rattle.plan_text.specs.Reading.{IsPieceWord, ArePieceWords}
use Rattle.plan_text.proofs.RowHeads.{said}

next_words : (words : List (Bor (List ℕ))) (i : ℕ) (d : Bor (List ℕ)) → i < length words → said (drop i words) ≡ (get_or words i d).now ∷ said (drop (i + 1) words)
next_words words i d l = ap said (drop-cons words i d l) ∙ ap (λ k. (get_or words i d).now ∷ said (drop k words)) (one_more i)
  where
    one_more : (n : ℕ) → suc n ≡ n + 1
    one_more n = omega arith

-- the first of what is left, and the others
pub pieces_there : (words : List (Bor (List ℕ))) (i : ℕ) (d : Bor (List ℕ)) → i < length words → (piece : Piece) (rest : List Piece) → IsPieceWord (get_or words i d).now piece → ArePieceWords (said (drop (i + 1) words)) rest →
    ArePieceWords (said (drop i words)) (piece ∷ rest)
pieces_there words i d l piece rest here others = subst (λ ws. ArePieceWords ws (piece ∷ rest)) (sym (next_words words i d l)) (here, others)

of_next : (word : List ℕ) (words : List (List ℕ)) (pieces : List Piece) → ArePieceWords (word ∷ words) pieces → ((piece : Piece) × IsPieceWord word piece) × ((more : List Piece) × ArePieceWords words more)
of_next word words [] are = absurd are
of_next word words (piece ∷ pieces) are = ((piece, are.0), (pieces, are.1))

pub pieces_here : (words : List (Bor (List ℕ))) (i : ℕ) (d : Bor (List ℕ)) → i < length words → (rest : List Piece) → ArePieceWords (said (drop i words)) rest → (piece : Piece) × IsPieceWord (get_or words i d).now piece
pieces_here words i d l rest are = (of_next (get_or words i d).now (said (drop (i + 1) words)) rest (subst (λ ws. ArePieceWords ws rest) (next_words words i d l) are)).0

pub pieces_behind : (words : List (Bor (List ℕ))) (i : ℕ) (d : Bor (List ℕ)) → i < length words → (rest : List Piece) → ArePieceWords (said (drop i words)) rest → (more : List Piece) × ArePieceWords (said (drop (i + 1) words)) more
pieces_behind words i d l rest are = (of_next (get_or words i d).now (said (drop (i + 1) words)) rest (subst (λ ws. ArePieceWords ws rest) (next_words words i d l) are)).1
