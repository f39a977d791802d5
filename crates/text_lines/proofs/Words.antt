-- Words and what stands behind them, and texts that lack a byte.
use Rattle.std.proofs.Common.{◌≡◌, ◌≢◌, ◌⊎◌, ℕ, ◌<◌, ◌≤◌, ◌^◌, Bool, true, false, not, ◌&&◌, nat_eq, cond, All, Bor, map, List, [], ◌∷◌, ◌++◌, length, take, drop, Some, None, bytes_eq, decimal, refl, sym, ap, ◌∙◌, subst, arith, inl, inr}
use Rattle.std.specs.List.{join_with_byte, list_all}
use Rattle.std.specs.Str.Parse.{AllDigits}
use Rattle.std.proofs.lemmas.Bool.{eq-eqb, ne_eqb}
use Rattle.std.proofs.lemmas.Fmt.{decimal_is_IsNumeral_wide}
use Rattle.std.proofs.lemmas.Str.Parse.{digit_from_value}
use Rattle.std.proofs.lemmas.Slice.Eq.{bytes_eq-Decides}
use Rattle.std.proofs.lemmas.List.{take-append-drop}
use Rattle.std.proofs.lemmas.List.Splits.{slice_split_at, slice_split_none, join_with_byte-slice_split}
use Rattle.std.proofs.lemmas.List.Elements.{All-nil, All-cons, All-head, All-tail}
use Rattle.std.proofs.Math.Seq.{take-append_seam, drop-append_seam}
use Rattle.text_lines.specs.Lines.{parted, words_of, behind}
use Rattle.text_lines.proofs.FirstLines.{IsParted, part_split}

-- what stands behind a word
pub behind_read : (word text rest : List ℕ) → behind word text ≡ Some rest → text ≡ word ++ rest
behind_read word text rest e = way (bytes_eq (take (length word) text) word) refl e
  where
    same_rest : (xs ys : List ℕ) → Some xs ≡ Some ys → xs ≡ ys
    same_rest xs ys e = cc

    way : (b : Bool) → bytes_eq (take (length word) text) word ≡ b → cond b (Some (drop (length word) text)) None ≡ Some rest → text ≡ word ++ rest
    way true is e =
        let front : take (length word) text ≡ word = (bytes_eq-Decides (take (length word) text) word).0 is in
        sym (take-append-drop (length word) text) ∙ ap (λ xs. xs ++ drop (length word) text) front ∙ ap (λ ys. word ++ ys) (same_rest (drop (length word) text) rest e)
    way false is e = let bad : None ≡ Some rest = e in cc

pub behind_back : (word rest : List ℕ) → behind word (word ++ rest) ≡ Some rest
behind_back word rest = rw (take-append_seam word rest, drop-append_seam word rest, (bytes_eq-Decides word word).1 refl) refl

-- a text that passes a test lacks a byte
pub lacks_by : (by : ℕ) (text : List ℕ) → list_all (λ b. not (nat_eq b by)) text ≡ true → All (λ b. b ≢ by) text
lacks_by by [] e = All-nil (λ b. b ≢ by)
lacks_by by (b ∷ text) e = All-cons (λ b. b ≢ by) b text (λ same. let bad : false ≡ true = rw (eq-eqb b by same) at e in cc) (lacks_by by text (rest (not (nat_eq b by)) _ e))
  where
    rest : (x y : Bool) → (x && y) ≡ true → y ≡ true
    rest true y e = e
    rest false y e = let bad : false ≡ true = e in cc

-- what is printed of a number lacks each byte that is no digit
pub decimal_lacks : (by n : ℕ) → n < 10 ^ 64 → (by < 48) ⊎ (57 < by) → All (λ b. b ≢ by) (decimal n)
decimal_lacks by n small apart = digits (decimal n) (decimal_is_IsNumeral_wide n small).0.1
  where
    other : (b : ℕ) → 48 ≤ b → b ≤ 57 → (by < 48) ⊎ (57 < by) → b ≢ by
    other b low high (inl h) = λ e. omega (arith, low, h, e)
    other b low high (inr h) = λ e. omega (arith, high, h, e)

    digits : (text : List ℕ) → AllDigits 10 text → All (λ b. b ≢ by) text
    digits [] d = All-nil (λ b. b ≢ by)
    digits (b ∷ text) d = let range = digit_from_value b d.0 in All-cons (λ b. b ≢ by) b text (other b range.0 range.1 apart) (digits text d.1)

-- no byte passes the test for a space
untested : (word : List ℕ) → All (λ b. b ≢ 32) word → All (λ b. nat_eq b 32 ≡ false) word
untested [] none = All-nil (λ b. nat_eq b 32 ≡ false)
untested (b ∷ word) none = All-cons (λ b. nat_eq b 32 ≡ false) b word (ne_eqb b 32 (All-head (λ b. b ≢ 32) b word none)) (untested word (All-tail (λ b. b ≢ 32) b word none))

-- a word and a space before a line are a word before its words
pub word_before : (word text : List ℕ) → All (λ b. b ≢ 32) word → words_of (word ++ 32 ∷ text) ≡ word ∷ words_of text
word_before word text none = slice_split_at (λ b. nat_eq b 32) word 32 text (untested word none) (eq-eqb 32 32 refl)

-- a text without a space is one word
pub one_word : (word : List ℕ) → All (λ b. b ≢ 32) word → words_of word ≡ word ∷ []
one_word word none = slice_split_none (λ b. nat_eq b 32) word (untested word none)

-- a line is its words with a space between each two
pub words_join : (text : List ℕ) → join_with_byte 32 (words_of text) ≡ text
words_join text = join_with_byte-slice_split 32 text

-- words without spaces are those of the line that they make
pub words_back : (word : List ℕ) (words : List (List ℕ)) → All (λ w. All (λ b. b ≢ 32) w) (word ∷ words) → words_of (join_with_byte 32 (word ∷ words)) ≡ word ∷ words
words_back word [] none = one_word word (All-head (λ w. All (λ b. b ≢ 32) w) word [] none)
words_back word (next ∷ words) none =
    word_before word (join_with_byte 32 (next ∷ words)) (All-head (λ w. All (λ b. b ≢ 32) w) word (next ∷ words) none)
    ∙ ap (λ ws. word ∷ ws) (words_back next words (All-tail (λ w. All (λ b. b ≢ 32) w) word (next ∷ words) none))

-- the words of a line that is parted at its first space
pub words_step : (text : List ℕ) (parts : List ℕ × List ℕ) → parted 32 text ≡ Some parts → words_of text ≡ parts.0 ∷ words_of parts.1
words_step text parts e =
    let both : IsParted 32 text (Some parts) = subst (IsParted 32 text) e (part_split 32 text) in
    ap words_of both.0 ∙ word_before parts.0 parts.1 both.1

-- a line that isn't parted is one word
pub words_end : (text : List ℕ) → parted 32 text ≡ None → words_of text ≡ text ∷ []
words_end text e = one_word text (subst (IsParted 32 text) e (part_split 32 text))

-- words read with one more, before those of what is left
pub words_push : (words : List (Bor (List ℕ))) (word : Bor (List ℕ)) (left rest : List (List ℕ)) → rest ≡ word.now ∷ left →
    map (λ w. w.now) (words ++ word ∷ []) ++ left ≡ map (λ w. w.now) words ++ rest
words_push [] word left rest e = sym e
words_push (first ∷ words) word left rest e = ap (λ ws. first.now ∷ ws) (words_push words word left rest e)
