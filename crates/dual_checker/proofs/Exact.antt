-- The texts of certificates are read as what they print, and no others are read.
use Rattle.std.proofs.Common.{◌≡◌, ◌≢◌, ℕ, zero, suc, ◌+◌, ◌<◌, ◌≤◌, ◌^◌, Bool, true, false, not, ℤ, pos, negsuc, ◌≤ℤ◌, nat_abs, nat_eq, cond, List, [], ◌∷◌, ◌++◌, length, take, drop, slice_index_or, All, Option, Some, None, option_and_then, Result, Ok, Err, bytes_eq, codes, decimal, refl, sym, ap, ◌∙◌, subst, arith, inl}
use Rattle.std.specs.Prelude.{int_lt}
use Rattle.std.specs.Fmt.{signed_decimal}
use Rattle.std.specs.List.{list_all}
use Rattle.std.proofs.lemmas.Int.{ints}
use Rattle.std.proofs.lemmas.Slice.Eq.{bytes_eq-Decides}
use Rattle.std.proofs.lemmas.List.{append_assoc, append-nil, length-append, take_more, drop_more, take_all, drop_all}
use Rattle.std.proofs.lemmas.List.Elements.{All-append, All-cons, All-nil, All-push}
use Rattle.linear_program.specs.Certificates.{CertificateView}
use Rattle.schedule_model.specs.declared.schedule.Series.{Series}
use Rattle.schedule_model.specs.declared.schedule.Series.TheVariants.{Tasking, Scatter}
use Rattle.text_lines.specs.Lines.{line, IsOneLine, first_line, behind}
use Rattle.text_lines.specs.Numbers.{integer_of, IsReadAsPrinted}
use Rattle.text_lines.proofs.Digits.{read_as_printed}
use Rattle.text_lines.proofs.FirstLines.{line_first, IsSplit, line_split}
use Rattle.text_lines.proofs.Words.{behind_read, behind_back, lacks_by, decimal_lacks}
use Rattle.dual_checker.specs.declared.reading.CertificateFault.{CertificateFault}
use Rattle.dual_checker.specs.declared.reading.CertificateFault.TheVariants.{Line}
use Rattle.dual_checker.specs.Texts.{header_text, price_word, prices_text, certificate_text}
use Rattle.dual_checker.specs.Reading.{most_size, Left, Numbered, expected, after_text, at_least, number_in, or_fault, numbered, number_after, least_price, Prices, with_price, next_price, prices_of, ended, priced, from_best, from_scale, from_rows, from_header, certificate_of, IsWritten, AreTexts}
use Rattle.dual_checker.proofs.Parts.{prices_push, lines_read}

abbrev text_ok : List ℕ → Left
text_ok rest = Ok rest

abbrev number_ok : ℤ → List ℕ → Numbered
number_ok z rest = Ok (z, rest)

abbrev prices_ok : List ℤ → List ℕ → Prices
prices_ok prices rest = Ok (prices, rest)

abbrev number_of : Numbered → ℤ
number_of (Ok found) = found.0
number_of (Err fault) = pos 0

abbrev left_of : Numbered → List ℕ
left_of (Ok found) = found.1
left_of (Err fault) = []

abbrev prices_in : Prices → List ℤ
prices_in (Ok found) = found.0
prices_in (Err fault) = []

abbrev left_in : Prices → List ℕ
left_in (Ok found) = found.1
left_in (Err fault) = []

-- a line of a text read
text_read : (number : ℕ) (text bytes rest : List ℕ) → after_text number text bytes ≡ Ok rest → bytes ≡ line text ++ rest
text_read number text bytes rest e = way (first_line bytes) (line_split bytes) e
  where
    same_rest : (xs ys : List ℕ) → text_ok xs ≡ text_ok ys → xs ≡ ys
    same_rest xs ys e = cc

    compared : (found left : List ℕ) (b : Bool) → bytes_eq found text ≡ b → bytes ≡ line found ++ left → cond b (Ok left) (Err (Line number)) ≡ Ok rest → bytes ≡ line text ++ rest
    compared found left true is split e =
        let same : found ≡ text = (bytes_eq-Decides found text).0 is in
        split ∙ ap (λ xs. line xs ++ left) same ∙ ap (λ ys. line text ++ ys) (same_rest left rest e)
    compared found left false is split e = let bad : Err (Line number) ≡ Ok rest = e in cc

    way : (found : Option (List ℕ × List ℕ)) → IsSplit bytes found → expected number text found ≡ Ok rest → bytes ≡ line text ++ rest
    way None split e = let bad : Err (Line number) ≡ Ok rest = e in cc
    way (Some parts) split e = compared parts.0 parts.1 (bytes_eq parts.0 text) refl split.0 e

text_back : (number : ℕ) (text rest : List ℕ) → IsOneLine text → after_text number text (line text ++ rest) ≡ Ok rest
text_back number text rest one = rw (line_first text rest one, (bytes_eq-Decides text text).1 refl) refl

-- numbers up to 2^127 - 1 in size are read as they are printed
printed : IsReadAsPrinted most_size
printed = read_as_printed most_size (omega arith)

-- the line of a number read
record IsNumber (word bytes : List ℕ) (least z : ℤ) (rest : List ℕ) : Type 0 where
  pub bytes_are : bytes ≡ line (word ++ signed_decimal z) ++ rest
  pub at_least : least ≤ℤ z
  pub small : nat_abs z ≤ most_size

number_read : (number : ℕ) (word : List ℕ) (least : ℤ) (bytes rest : List ℕ) (z : ℤ) → number_after number word least bytes ≡ Ok (z, rest) → IsNumber word bytes least z rest
number_read number word least bytes rest z e = way (first_line bytes) (line_split bytes) e
  where
    same_number : (y z : ℤ) (xs ys : List ℕ) → number_ok y xs ≡ number_ok z ys → (y ≡ z) × (xs ≡ ys)
    same_number y z xs ys e = (ap number_of e, ap left_of e)

    same_found : (y z : ℤ) → Some y ≡ Some z → y ≡ z
    same_found y z e = cc

    bounded : (y : ℤ) (b : Bool) → int_lt y least ≡ b → cond b None (Some y) ≡ Some z → (y ≡ z) × (least ≤ℤ y)
    bounded y true is e = let bad : None ≡ Some z = e in cc
    bounded y false is e = (same_found y z e, omega (arith, ints))

    in_line : (text : List ℕ) → number_in word least text ≡ Some z → (text ≡ word ++ signed_decimal z) × (least ≤ℤ z) × (nat_abs z ≤ most_size)
    in_line text e = by_word (behind word text) refl e
      where
        by_digits : (digits : List ℕ) (found : Option ℤ) → integer_of most_size digits ≡ found → option_and_then (at_least least) found ≡ Some z → (digits ≡ signed_decimal z) × (least ≤ℤ z) × (nat_abs z ≤ most_size)
        by_digits digits None f e = let bad : None ≡ Some z = e in cc
        by_digits digits (Some y) f e =
            let bound = bounded y (int_lt y least) refl e in
            let known = printed.only_integers digits y f in
            (known.1 ∙ ap signed_decimal bound.0, subst (λ y. least ≤ℤ y) bound.0 bound.1, subst (λ y. nat_abs y ≤ most_size) bound.0 known.0)

        by_word : (found : Option (List ℕ)) → behind word text ≡ found → option_and_then (λ digits. option_and_then (at_least least) (integer_of most_size digits)) found ≡ Some z → (text ≡ word ++ signed_decimal z) × (least ≤ℤ z) × (nat_abs z ≤ most_size)
        by_word None f e = let bad : None ≡ Some z = e in cc
        by_word (Some digits) f e =
            let known = by_digits digits (integer_of most_size digits) refl e in
            (behind_read word text digits f ∙ ap (λ ys. word ++ ys) known.0, known.1, known.2)

    by_number : (text left : List ℕ) (found : Option ℤ) → number_in word least text ≡ found → bytes ≡ line text ++ left → or_fault number found left ≡ Ok (z, rest) → IsNumber word bytes least z rest
    by_number text left None f split e = let bad : Err (Line number) ≡ Ok (z, rest) = e in cc
    by_number text left (Some y) f split e =
        let same = same_number y z left rest e in
        let known = in_line text (f ∙ ap (λ y. Some y) same.0) in
        record { bytes_are = split ∙ ap (λ xs. line xs ++ left) known.0 ∙ ap (λ ys. line (word ++ signed_decimal z) ++ ys) same.1; at_least = known.1; small = known.2 }

    way : (found : Option (List ℕ × List ℕ)) → IsSplit bytes found → numbered number word least found ≡ Ok (z, rest) → IsNumber word bytes least z rest
    way None split e = let bad : Err (Line number) ≡ Ok (z, rest) = e in cc
    way (Some parts) split e = by_number parts.0 parts.1 (number_in word least parts.0) refl split.0 e

number_back : (number : ℕ) (word : List ℕ) (least z : ℤ) (rest : List ℕ) → IsOneLine (word ++ signed_decimal z) → least ≤ℤ z → nat_abs z ≤ most_size →
    number_after number word least (line (word ++ signed_decimal z) ++ rest) ≡ Ok (z, rest)
number_back number word least z rest one bound small =
    rw (line_first (word ++ signed_decimal z) rest one, behind_back word (signed_decimal z), printed.integers z small, not_below) refl
  where
    not_below : int_lt z least ≡ false
    not_below = way (int_lt z least) refl
      where
        way : (b : Bool) → int_lt z least ≡ b → b ≡ false
        way true e = absurd (omega (arith, ints, e, bound))
        way false e = refl

-- the lines of prices read
record ArePrices (n : ℕ) (bytes : List ℕ) (prices : List ℤ) (rest : List ℕ) : Type 0 where
  pub bytes_are : bytes ≡ prices_text 0 prices ++ rest
  pub many : length prices ≡ n
  pub small : All (λ price. nat_abs price < 2 ^ 127) prices

same_prices : (xs ys : List ℤ) (r s : List ℕ) → prices_ok xs r ≡ prices_ok ys s → (xs ≡ ys) × (r ≡ s)
same_prices xs ys r s e = (ap prices_in e, ap left_in e)

prices_read : (n : ℕ) (bytes : List ℕ) (prices : List ℤ) (rest : List ℕ) → prices_of n bytes ≡ Ok (prices, rest) → ArePrices n bytes prices rest
prices_read zero bytes prices rest e =
    let same = same_prices [] prices bytes rest e in
    record {
      bytes_are = same.1 ∙ ap (λ prices. prices_text 0 prices ++ rest) same.0;
      many = ap length (sym same.0);
      small = subst (λ prices. All (λ price. nat_abs price < 2 ^ 127) prices) same.0 (All-nil (λ price. nat_abs price < 2 ^ 127));
    }
prices_read (suc n) bytes prices rest e = way (prices_of n bytes) (prices_read n bytes) e
  where
    with_next : (before : List ℤ) (left : List ℕ) (found : Numbered) → number_after (n + 5) (price_word n) least_price left ≡ found → ArePrices n bytes before left → with_price before found ≡ Ok (prices, rest) →
        ArePrices (suc n) bytes prices rest
    with_next before left (Err fault) f inner e = let bad : Err fault ≡ Ok (prices, rest) = e in cc
    with_next before left (Ok found) f inner e =
        let same = same_prices (before ++ found.0 ∷ []) prices found.1 rest e in
        let number = number_read (n + 5) (price_word n) least_price left found.1 found.0 f in
        let text : prices_text 0 (before ++ found.0 ∷ []) ≡ prices_text 0 before ++ line (price_word n ++ signed_decimal found.0) = prices_push 0 before found.0 ∙ ap (λ k. prices_text 0 before ++ line (price_word k ++ signed_decimal found.0)) (from_zero (length before) n inner.many) in
        let all : bytes ≡ prices_text 0 (before ++ found.0 ∷ []) ++ found.1 = inner.bytes_are ∙ ap (λ ys. prices_text 0 before ++ ys) number.bytes_are ∙ sym (append_assoc (prices_text 0 before) (line (price_word n ++ signed_decimal found.0)) found.1) ∙ ap (λ xs. xs ++ found.1) (sym text) in
        record {
          bytes_are = all ∙ ap (λ prices. prices_text 0 prices ++ found.1) same.0 ∙ ap (λ r. prices_text 0 prices ++ r) same.1;
          many = ap length (sym same.0) ∙ length-append before (found.0 ∷ []) ∙ one_more (length before) n inner.many;
          small = subst (λ prices. All (λ price. nat_abs price < 2 ^ 127) prices) same.0 (All-push (λ price. nat_abs price < 2 ^ 127) before found.0 inner.small (fits found.0 number.small));
        }
      where
        from_zero : (m n : ℕ) → m ≡ n → 0 + m ≡ n
        from_zero m n e = omega (arith, e)

        one_more : (m n : ℕ) → m ≡ n → m + 1 ≡ suc n
        one_more m n e = omega (arith, e)

        fits : (z : ℤ) → nat_abs z ≤ most_size → nat_abs z < 2 ^ 127
        fits z h = omega (arith, h)

    way : (before : Prices) → ((prices : List ℤ) (rest : List ℕ) → before ≡ Ok (prices, rest) → ArePrices n bytes prices rest) → next_price n before ≡ Ok (prices, rest) → ArePrices (suc n) bytes prices rest
    way (Err fault) inner e = let bad : Err fault ≡ Ok (prices, rest) = e in cc
    way (Ok found) inner e = with_next found.0 found.1 (number_after (n + 5) (price_word n) least_price found.1) refl (inner found.0 found.1 refl) e

-- a text that is read is the certificate's
module _ (series : Series) (rows : ℕ) (c : CertificateView) where
  abbrev IsAccepted : List ℕ → Type 0
  IsAccepted bytes = IsWritten rows c × (bytes ≡ certificate_text series c)

  abbrev certificate_ok : CertificateView → Result CertificateView CertificateFault
  certificate_ok c = Ok c

  same_certificate : (d e : CertificateView) → certificate_ok d ≡ certificate_ok e → d ≡ e
  same_certificate d e h = cc

  -- the six parts of a text
  joined : (a b d e f g : List ℕ) {bytes r s t u v w : List ℕ} → bytes ≡ a ++ r → r ≡ b ++ s → s ≡ d ++ t → t ≡ e ++ u → u ≡ f ++ v → v ≡ g ++ w → w ≡ [] → bytes ≡ a ++ (b ++ (d ++ (e ++ (f ++ g))))
  joined a b d e f g h i j k l m n =
      h ∙ ap (λ x. a ++ x) (i ∙ ap (λ x. b ++ x) (j ∙ ap (λ x. d ++ x) (k ∙ ap (λ x. e ++ x) (l ∙ ap (λ x. f ++ x) (m ∙ ap (λ x. g ++ x) n ∙ append-nil g)))))

  at_end : (scale best : ℤ) (bytes r s t u v : List ℕ) (prices : List ℤ) → bytes ≡ line (header_text series) ++ r → r ≡ line (codes "rows " ++ decimal rows) ++ s →
      IsNumber (codes "scale ") s (pos 1) scale t → IsNumber (codes "best ") t (pos 0) best u → ArePrices rows u prices v →
      (left : Left) → after_text (rows + 5) (codes "end") v ≡ left → ended (rows + 5) (record { scale = scale; best = best; prices = prices }) left ≡ Ok c → IsAccepted bytes
  at_end scale best bytes r s t u v prices h i j k l (Err fault) f e = let bad : Err fault ≡ Ok c = e in cc
  at_end scale best bytes r s t u v prices h i j k l (Ok (b ∷ rest)) f e = let bad : Err (Line (rows + 5 + 1)) ≡ Ok c = e in cc
  at_end scale best bytes r s t u v prices h i j k l (Ok []) f e =
      let same = same_certificate (record { scale = scale; best = best; prices = prices }) c e in
      let made : CertificateView = record { scale = scale; best = best; prices = prices } in
      let rows_line : line (codes "rows " ++ decimal rows) ≡ line (codes "rows " ++ decimal (length prices)) = ap (λ n. line (codes "rows " ++ decimal n)) (sym l.many) in
      let text : bytes ≡ certificate_text series made =
      joined (line (header_text series)) (line (codes "rows " ++ decimal (length prices))) (line (codes "scale " ++ signed_decimal scale)) (line (codes "best " ++ signed_decimal best)) (prices_text 0 prices) (line (codes "end")) h (i ∙ ap (λ x. x ++ s) rows_line) j.bytes_are k.bytes_are l.bytes_are (text_read (rows + 5) (codes "end") v [] f) refl in
      let fine : IsWritten rows made = record {
        certificate = record { some_scale = j.at_least; best_not_negative = k.at_least; small_prices = l.small };
        one_each = l.many;
        small_scale = j.small;
        small_best = k.small;
      } in
      subst (λ c. IsWritten rows c × (bytes ≡ certificate_text series c)) same (fine, text)

  at_prices : (scale best : ℤ) (bytes r s t u : List ℕ) → bytes ≡ line (header_text series) ++ r → r ≡ line (codes "rows " ++ decimal rows) ++ s →
      IsNumber (codes "scale ") s (pos 1) scale t → IsNumber (codes "best ") t (pos 0) best u →
      (found : Prices) → prices_of rows u ≡ found → priced rows scale best found ≡ Ok c → IsAccepted bytes
  at_prices scale best bytes r s t u h i j k (Err fault) f e = let bad : Err fault ≡ Ok c = e in cc
  at_prices scale best bytes r s t u h i j k (Ok found) f e =
      at_end scale best bytes r s t u found.1 found.0 h i j k (prices_read rows u found.0 found.1 f) (after_text (rows + 5) (codes "end") found.1) refl e

  at_best : (scale : ℤ) (bytes r s t : List ℕ) → bytes ≡ line (header_text series) ++ r → r ≡ line (codes "rows " ++ decimal rows) ++ s → IsNumber (codes "scale ") s (pos 1) scale t →
      (found : Numbered) → number_after 4 (codes "best ") (pos 0) t ≡ found → from_best rows scale found ≡ Ok c → IsAccepted bytes
  at_best scale bytes r s t h i j (Err fault) f e = let bad : Err fault ≡ Ok c = e in cc
  at_best scale bytes r s t h i j (Ok found) f e =
      at_prices scale found.0 bytes r s t found.1 h i j (number_read 4 (codes "best ") (pos 0) t found.1 found.0 f) (prices_of rows found.1) refl e

  at_scale : (bytes r s : List ℕ) → bytes ≡ line (header_text series) ++ r → r ≡ line (codes "rows " ++ decimal rows) ++ s →
      (found : Numbered) → number_after 3 (codes "scale ") (pos 1) s ≡ found → from_scale rows found ≡ Ok c → IsAccepted bytes
  at_scale bytes r s h i (Err fault) f e = let bad : Err fault ≡ Ok c = e in cc
  at_scale bytes r s h i (Ok found) f e =
      at_best found.0 bytes r s found.1 h i (number_read 3 (codes "scale ") (pos 1) s found.1 found.0 f) (number_after 4 (codes "best ") (pos 0) found.1) refl e

  at_rows : (bytes r : List ℕ) → bytes ≡ line (header_text series) ++ r → (left : Left) → after_text 2 (codes "rows " ++ decimal rows) r ≡ left → from_rows rows left ≡ Ok c → IsAccepted bytes
  at_rows bytes r h (Err fault) f e = let bad : Err fault ≡ Ok c = e in cc
  at_rows bytes r h (Ok s) f e = at_scale bytes r s h (text_read 2 (codes "rows " ++ decimal rows) r s f) (number_after 3 (codes "scale ") (pos 1) s) refl e

  at_header : (bytes : List ℕ) (left : Left) → after_text 1 (header_text series) bytes ≡ left → from_header rows left ≡ Ok c → IsAccepted bytes
  at_header bytes (Err fault) f e = let bad : Err fault ≡ Ok c = e in cc
  at_header bytes (Ok r) f e = at_rows bytes r (text_read 1 (header_text series) bytes r f) (after_text 2 (codes "rows " ++ decimal rows) r) refl e

  pub accepted : (bytes : List ℕ) → certificate_of series rows bytes ≡ Ok c → IsWritten rows c × (bytes ≡ certificate_text series c)
  accepted bytes e = at_header bytes (after_text 1 (header_text series) bytes) refl e

-- texts that stand on one line
one_line_by : (text : List ℕ) → list_all (λ b. not (nat_eq b 10)) text ≡ true → IsOneLine text
one_line_by text e = lacks_by 10 text e

one_line_both : (xs ys : List ℕ) → IsOneLine xs → IsOneLine ys → IsOneLine (xs ++ ys)
one_line_both xs ys h k = All-append (λ b. b ≢ 10) xs ys h k

decimal_one_line : (n : ℕ) → n < 10 ^ 64 → IsOneLine (decimal n)
decimal_one_line n small = decimal_lacks 10 n small (inl (omega arith))

signed_one_line : (z : ℤ) → nat_abs z ≤ most_size → IsOneLine (signed_decimal z)
signed_one_line (pos n) h = decimal_one_line n (omega (arith, h))
signed_one_line (negsuc n) h = All-cons (λ b. b ≢ 10) 45 (decimal (suc n)) (λ same. omega (arith, same)) (decimal_one_line (suc n) (omega (arith, h)))

header_one_line : (series : Series) → IsOneLine (header_text series)
header_one_line Tasking = one_line_by (header_text Tasking) refl
header_one_line Scatter = one_line_by (header_text Scatter) refl

word_one_line : (k : ℕ) → k < 10 ^ 64 → IsOneLine (price_word k)
word_one_line k h = one_line_both (codes "price ") (decimal k ++ codes " ") (one_line_by (codes "price ") refl) (one_line_both (decimal k) (codes " ") (decimal_one_line k h) (one_line_by (codes " ") refl))

-- the lines of the first prices are read, and those of the others are left
prices_back : (prices : List ℤ) (rest : List ℕ) → length prices < 2 ^ 32 → All (λ price. nat_abs price < 2 ^ 127) prices → (n : ℕ) → n ≤ length prices →
    prices_of n (prices_text 0 prices ++ rest) ≡ Ok (take n prices, prices_text n (drop n prices) ++ rest)
prices_back prices rest few small zero l = refl
prices_back prices rest few small (suc n) l =
    let price : ℤ = slice_index_or prices n (pos 0) in
    let before = prices_back prices rest few small n (omega (arith, l)) in
    let size : nat_abs price < 2 ^ 127 = small n (pos 0) l in
    let next : drop n prices ≡ price ∷ drop (n + 1) prices = drop_more prices n (pos 0) l in
    let left : prices_text n (drop n prices) ++ rest ≡ line (price_word n ++ signed_decimal price) ++ (prices_text (n + 1) (drop (n + 1) prices) ++ rest) =
    ap (λ prices. prices_text n prices ++ rest) next ∙ append_assoc (line (price_word n ++ signed_decimal price)) (prices_text (n + 1) (drop (n + 1) prices)) rest in
    let one = one_line_both (price_word n) (signed_decimal price) (word_one_line n (omega (arith, l, few))) (signed_one_line price (omega (arith, size))) in
    let read = number_back (n + 5) (price_word n) least_price price (prices_text (n + 1) (drop (n + 1) prices) ++ rest) one (least price size) (omega (arith, size)) in
    ap (next_price n) before ∙ ap (λ left. with_price (take n prices) (number_after (n + 5) (price_word n) least_price left)) left ∙ ap (with_price (take n prices)) read
    ∙ ap (λ front. prices_ok front (prices_text (n + 1) (drop (n + 1) prices) ++ rest)) (sym (take_more prices n (pos 0) l))
    ∙ ap (λ m. prices_ok (take m prices) (prices_text m (drop m prices) ++ rest)) (plus_one n)
  where
    plus_one : (n : ℕ) → n + 1 ≡ suc n
    plus_one n = omega arith

    least : (z : ℤ) → nat_abs z < 2 ^ 127 → least_price ≤ℤ z
    least (pos n) h = omega (arith, ints)
    least (negsuc n) h = omega (arith, ints, h)

pub read_back : (series : Series) (rows : ℕ) (c : CertificateView) → rows < 2 ^ 32 → IsWritten rows c → certificate_of series rows (certificate_text series c) ≡ Ok c
read_back series rows c few written =
    let fine = written.certificate in
    let many : length c.prices < 2 ^ 32 = rw written.one_each few in
    let prices_left = prices_back c.prices (line (codes "end")) many fine.small_prices (length c.prices) (omega arith) in
    let nothing : drop (length c.prices) c.prices ≡ [] = drop_all (length c.prices) c.prices (omega arith) in
    let whole : take (length c.prices) c.prices ≡ c.prices = take_all (length c.prices) c.prices (omega arith) in
    let prices_read : prices_of rows (prices_text 0 c.prices ++ line (codes "end")) ≡ Ok (c.prices, line (codes "end")) =
    ap (λ n. prices_of n (prices_text 0 c.prices ++ line (codes "end"))) (sym written.one_each) ∙ prices_left ∙ rw (nothing, whole) refl in
    let from_prices : List ℕ = prices_text 0 c.prices ++ line (codes "end") in
    let from_best_on : List ℕ = line (codes "best " ++ signed_decimal c.best) ++ from_prices in
    let from_scale_on : List ℕ = line (codes "scale " ++ signed_decimal c.scale) ++ from_best_on in
    let from_rows_on : List ℕ = line (codes "rows " ++ decimal (length c.prices)) ++ from_scale_on in
    lines_read series rows (certificate_text series c) from_rows_on from_scale_on from_best_on from_prices (line (codes "end")) [] c.scale c.best c.prices
    (text_back 1 (header_text series) from_rows_on (header_one_line series))
    (ap (λ n. after_text 2 (codes "rows " ++ decimal rows) (line (codes "rows " ++ decimal n) ++ from_scale_on)) written.one_each ∙ text_back 2 (codes "rows " ++ decimal rows) from_scale_on (one_line_both (codes "rows ") (decimal rows) (one_line_by (codes "rows ") refl) (decimal_one_line rows (omega (arith, few)))))
    (number_back 3 (codes "scale ") (pos 1) c.scale from_best_on (one_line_both (codes "scale ") (signed_decimal c.scale) (one_line_by (codes "scale ") refl) (signed_one_line c.scale written.small_scale)) fine.some_scale written.small_scale)
    (number_back 4 (codes "best ") (pos 0) c.best from_prices (one_line_both (codes "best ") (signed_decimal c.best) (one_line_by (codes "best ") refl) (signed_one_line c.best written.small_best)) fine.best_not_negative written.small_best)
    prices_read
    (ap (after_text (rows + 5) (codes "end")) (sym (append-nil (line (codes "end")))) ∙ text_back (rows + 5) (codes "end") [] (one_line_by (codes "end") refl))

pub exact : (series : Series) (rows : ℕ) → rows < 2 ^ 32 → AreTexts series rows
exact series rows few = record { accepted = λ bytes c. accepted series rows c bytes; read_back = λ c. read_back series rows c few }
