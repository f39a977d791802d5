-- The lines of a certificate, printed and read.
use Rattle.std.proofs.Common.{◌≡◌, ℕ, zero, suc, ◌+◌, ◌<◌, ◌≤◌, ℤ, pos, min, List, [], ◌∷◌, ◌++◌, length, take, slice_index_or, Result, Ok, Err, codes, decimal, refl, sym, ap, ◌∙◌, subst, arith, inl, inr, add-zero}
use Rattle.std.specs.Fmt.{signed_decimal}
use Rattle.std.proofs.lemmas.Bool.{cases_lt}
use Rattle.std.proofs.lemmas.List.{append_assoc, append-nil, length-take, take_more}
use Rattle.linear_program.specs.Certificates.{CertificateView}
use Rattle.schedule_model.specs.declared.schedule.Series.{Series}
use Rattle.text_lines.specs.Lines.{line}
use Rattle.dual_checker.specs.declared.reading.CertificateFault.{CertificateFault}
use Rattle.dual_checker.specs.declared.reading.CertificateFault.TheVariants.{Line, NoMemory}
use Rattle.dual_checker.specs.Texts.{header_text, price_word, prices_text}
use Rattle.dual_checker.specs.Reading.{after_text, number_after, least_price, with_price, next_price, prices_of, ended, priced, certificate_of, IsFault}

-- the lines of prices with one more
pub prices_push : (k : ℕ) (prices : List ℤ) (price : ℤ) → prices_text k (prices ++ price ∷ []) ≡ prices_text k prices ++ line (price_word (k + length prices) ++ signed_decimal price)
prices_push k [] price = rw add-zero (append-nil (line (price_word k ++ signed_decimal price)))
prices_push k (first ∷ prices) price =
    ap (λ text. line (price_word k ++ signed_decimal first) ++ text) (prices_push (k + 1) prices price)
    ∙ ap (λ n. line (price_word k ++ signed_decimal first) ++ (prices_text (k + 1) prices ++ line (price_word n ++ signed_decimal price))) (further k (length prices))
    ∙ sym (append_assoc (line (price_word k ++ signed_decimal first)) (prices_text (k + 1) prices) (line (price_word (k + suc (length prices)) ++ signed_decimal price)))
  where
    further : (k n : ℕ) → k + 1 + n ≡ k + suc n
    further k n = omega arith

pub prices_more : (prices : List ℤ) (row : ℕ) → row < length prices →
    prices_text 0 (take (row + 1) prices) ≡ prices_text 0 (take row prices) ++ line (price_word row ++ signed_decimal (slice_index_or prices row (pos 0)))
prices_more prices row l =
    ap (prices_text 0) (take_more prices row (pos 0) l) ∙ prices_push 0 (take row prices) (slice_index_or prices row (pos 0))
    ∙ ap (λ n. prices_text 0 (take row prices) ++ line (price_word n ++ signed_decimal (slice_index_or prices row (pos 0)))) (as_many row (length prices) l (length-take row prices))
  where
    as_many : (row n : ℕ) {m : ℕ} → row < n → m ≡ min row n → 0 + m ≡ row
    as_many row n l e = omega (arith, l, e)

-- six texts one behind the other
pub in_order : (a b c d e f : List ℕ) {first second third fourth fifth sixth : List ℕ} → first ≡ a → second ≡ first ++ b → third ≡ second ++ c → fourth ≡ third ++ d → fifth ≡ fourth ++ e → sixth ≡ fifth ++ f →
    sixth ≡ a ++ (b ++ (c ++ (d ++ (e ++ f))))
in_order a b c d e f h i j k l m =
    m ∙ ap (λ xs. xs ++ f) (l ∙ ap (λ xs. xs ++ e) (k ∙ ap (λ xs. xs ++ d) (j ∙ ap (λ xs. xs ++ c) (i ∙ ap (λ xs. xs ++ b) h))))
    ∙ append_assoc ((((a ++ b) ++ c) ++ d)) e f ∙ append_assoc ((a ++ b) ++ c) d (e ++ f) ∙ append_assoc (a ++ b) c (d ++ (e ++ f)) ∙ append_assoc a b (c ++ (d ++ (e ++ f)))

-- a reading that has failed
pub is_fault : {A : Type 0} (fault : CertificateFault) (read : Result A CertificateFault) → read ≡ Err fault → IsFault fault read
is_fault (Line n) read e = e
is_fault NoMemory read e = tt

pub prices_fail : (bytes : List ℕ) (k rows : ℕ) (fault : CertificateFault) → k ≤ rows → prices_of k bytes ≡ Err fault → prices_of rows bytes ≡ Err fault
prices_fail bytes zero rows fault l e = let bad : Ok ([], bytes) ≡ Err fault = e in cc
prices_fail bytes (suc k) zero fault l e = absurd (omega (arith, l))
prices_fail bytes (suc k) (suc rows) fault l e =
    elim (cases_lt k rows) [
      | inl before ↦ ap (next_price rows) (prices_fail bytes (suc k) rows fault before e)
      | inr last ↦ let same : k ≡ rows = omega (arith, last, l) in subst (λ n. prices_of (suc n) bytes ≡ Err fault) same e
    ]

pub price_fails : (bytes rest : List ℕ) (prices : List ℤ) (k : ℕ) (fault : CertificateFault) → prices_of k bytes ≡ Ok (prices, rest) → number_after (k + 5) (price_word k) least_price rest ≡ Err fault →
    prices_of (suc k) bytes ≡ Err fault
price_fails bytes rest prices k fault e f = ap (next_price k) e ∙ ap (with_price prices) f

pub price_read : (bytes rest left : List ℕ) (prices : List ℤ) (k : ℕ) (price : ℤ) → prices_of k bytes ≡ Ok (prices, rest) → number_after (k + 5) (price_word k) least_price rest ≡ Ok (price, left) →
    prices_of (suc k) bytes ≡ Ok (prices ++ price ∷ [], left)
price_read bytes rest left prices k price e f = ap (next_price k) e ∙ ap (with_price prices) f

-- something behind the end
pub left_over : (number : ℕ) (c : CertificateView) (rest : List ℕ) → 0 < length rest → ended number c (Ok rest) ≡ Err (Line (number + 1))
left_over number c [] some = absurd (omega (arith, some))
left_over number c (b ∷ rest) some = refl

-- the lines before the prices read
pub head_read : (series : Series) (rows : ℕ) (bytes r s t u : List ℕ) (scale best : ℤ) →
    after_text 1 (header_text series) bytes ≡ Ok r → after_text 2 (codes "rows " ++ decimal rows) r ≡ Ok s → number_after 3 (codes "scale ") (pos 1) s ≡ Ok (scale, t) →
    number_after 4 (codes "best ") (pos 0) t ≡ Ok (best, u) → certificate_of series rows bytes ≡ priced rows scale best (prices_of rows u)
head_read series rows bytes r s t u scale best e f g h = rw (e, f, g, h) refl

-- the lines from the prices on read
pub prices_read : (rows : ℕ) (u v w : List ℕ) (scale best : ℤ) (prices : List ℤ) → prices_of rows u ≡ Ok (prices, v) → after_text (rows + 5) (codes "end") v ≡ Ok w →
    priced rows scale best (prices_of rows u) ≡ ended (rows + 5) (record { scale = scale; best = best; prices = prices }) (Ok w)
prices_read rows u v w scale best prices i j = rw (i, j) refl

-- all lines read
pub lines_read : (series : Series) (rows : ℕ) (bytes r s t u v w : List ℕ) (scale best : ℤ) (prices : List ℤ) →
    after_text 1 (header_text series) bytes ≡ Ok r → after_text 2 (codes "rows " ++ decimal rows) r ≡ Ok s → number_after 3 (codes "scale ") (pos 1) s ≡ Ok (scale, t) →
    number_after 4 (codes "best ") (pos 0) t ≡ Ok (best, u) → prices_of rows u ≡ Ok (prices, v) → after_text (rows + 5) (codes "end") v ≡ Ok w →
    certificate_of series rows bytes ≡ ended (rows + 5) (record { scale = scale; best = best; prices = prices }) (Ok w)
lines_read series rows bytes r s t u v w scale best prices e f g h i j = head_read series rows bytes r s t u scale best e f g h ∙ prices_read rows u v w scale best prices i j
