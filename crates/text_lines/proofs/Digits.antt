-- Numbers and their digits.
use Rattle.std.proofs.Common.{◌≡◌, ◌≢◌, ℕ, zero, suc, ◌+◌, ◌*◌, ◌/◌, ◌%◌, ◌^◌, ◌<◌, ◌≤◌, Bool, true, false, not, ◌&&◌, ◌||◌, nat_eq, nat_le, nat_lt, cond, ℤ, pos, negsuc, nat_abs, List, [], ◌∷◌, ◌++◌, length, drop, get_or, slice_index, Option, Some, None, option_map, option_and_then, decimal, refl, sym, ap, ◌∙◌, subst, arith, ◌⊎◌, inl, inr}
use Rattle.std.specs.Fmt.{signed_decimal}
use Rattle.std.specs.Char.{is_ascii_digit, digit_value}
use Rattle.std.specs.List.{list_all}
use Rattle.std.specs.Str.Parse.{digits_value, digits_value_after, AllDigits}
use Rattle.std.proofs.lemmas.Bool.{cases_lt, eqb-true, ne_eqb, eq-eqb, le-leb, leb-true, lt-leb, lt-ltb, ltb-true}
use Rattle.std.proofs.lemmas.List.{append-nil, append_assoc, length-append, get_or_append_left}
use Rattle.std.proofs.lemmas.Str.{digit_value_digit}
use Rattle.std.proofs.lemmas.Str.Parse.{digit_from_value, digit_at}
use Rattle.std.proofs.Math.Seq.{drop-cons}
use Rattle.std.proofs.lemmas.Fmt.{decimal_is_IsNumeral_wide, decimal_by_steps_wide, decimal_step_wide, decimal_digit}
use Rattle.ratio_core.specs.Texts.{is_number}
use Rattle.text_lines.specs.Numbers.{is_plain, at_most, natural_of, below_zero, integer_of, IsReadAsPrinted}

pub value_grows : (n : ℕ) (digits : List ℕ) → n ≤ digits_value_after 10 n digits
value_grows n [] = omega arith
value_grows n (c ∷ digits) = let further = value_grows (n * 10 + digit_value c) digits in omega (arith, further)

both : (a b : Bool) → (a && b) ≡ true → (a ≡ true) × (b ≡ true)
both true b e = (refl, e)
both false b e = let bad : false ≡ true = e in cc

-- a byte is a digit by the test, and by its value
digit_told : (c : ℕ) → is_ascii_digit c ≡ true → (48 ≤ c) × (c ≤ 57)
digit_told c e = let parts = both (nat_le 48 c) (nat_le c 57) e in (leb-true 48 c parts.0, leb-true c 57 parts.1)

digit_worth : (c : ℕ) → is_ascii_digit c ≡ true → digit_value c < 10
digit_worth c e = let range = digit_told c e in let worth = digit_value_digit c range in omega (arith, range.0, range.1, worth)

digit_tested : (c : ℕ) → digit_value c < 10 → is_ascii_digit c ≡ true
digit_tested c l = let range = digit_from_value c l in rw (le-leb 48 c range.0, le-leb c 57 range.1) refl

pub digits_told : (text : List ℕ) → list_all is_ascii_digit text ≡ true → AllDigits 10 text
digits_told [] e = tt
digits_told (c ∷ text) e =
    let parts = both (is_ascii_digit c) (list_all is_ascii_digit text) e in
    (digit_worth c parts.0, digits_told text parts.1)

digits_tested : (text : List ℕ) → AllDigits 10 text → list_all is_ascii_digit text ≡ true
digits_tested [] d = refl
digits_tested (c ∷ text) d = rw (digit_tested c d.0, digits_tested text d.1) refl

-- digits behind a number above 0 are printed behind it
printed_behind : (n : ℕ) (digits : List ℕ) → 0 < n → AllDigits 10 digits → digits_value_after 10 n digits < 10 ^ 64 → decimal (digits_value_after 10 n digits) ≡ decimal n ++ digits
printed_behind n [] some d small = sym (append-nil (decimal n))
printed_behind n (c ∷ digits) some d small =
    let next : ℕ = n * 10 + digit_value c in
    let range = digit_from_value c d.0 in
    let worth = digit_value_digit c range in
    let grows = value_grows next digits in
    let front : next / 10 ≡ n = omega (arith, d.0) in
    let last : 48 + next % 10 ≡ c = omega (arith, d.0, worth) in
    let step : decimal next ≡ decimal n ++ c ∷ [] = decimal_step_wide next (omega arith) (omega (arith, grows, small)) ∙ ap (λ m. decimal m ++ (48 + next % 10) ∷ []) front ∙ ap (λ b. decimal n ++ b ∷ []) last in
    printed_behind next digits (omega arith) d.1 small ∙ ap (λ xs. xs ++ digits) step ∙ append_assoc (decimal n) (c ∷ []) digits

-- digits without a leading zero are printed of the number that they write
printed : (digits : List ℕ) → AllDigits 10 digits → 0 < length digits → (slice_index digits 0 ≡ 48 → length digits ≡ 1) → digits_value 10 digits < 10 ^ 64 → decimal (digits_value 10 digits) ≡ digits
printed [] d some lead small = absurd (omega (arith, some))
printed (c ∷ []) d some lead small =
    let worth = digit_value_digit c (digit_from_value c d.0) in
    decimal_digit (0 * 10 + digit_value c) (omega (arith, d.0)) ∙ ap (λ b. b ∷ []) (omega (arith, worth))
printed (c ∷ (b ∷ digits)) d some lead small =
    let worth = digit_value_digit c (digit_from_value c d.0) in
    let high : c ≢ 48 = λ e. two (length digits) (lead e) in
    let first : decimal (0 * 10 + digit_value c) ≡ c ∷ [] = decimal_digit (0 * 10 + digit_value c) (omega (arith, d.0)) ∙ ap (λ b. b ∷ []) (omega (arith, worth)) in
    printed_behind (0 * 10 + digit_value c) (b ∷ digits) (omega (arith, worth, high, digit_from_value c d.0)) d.1 small ∙ ap (λ xs. xs ++ b ∷ digits) first
  where
    two : (n : ℕ) → suc (suc n) ≡ 1 → ⊥
    two n e = omega (arith, e)

-- what is printed of a number above 0 begins with no zero
no_zero_first : (n : ℕ) → n < 10 ^ 64 → 1 ≤ n → slice_index (decimal n) 0 ≢ 48
no_zero_first n small some =
    let found : (0 < length (decimal n)) × (1 ≤ n → slice_index (decimal n) 0 ≢ 48) =
    decimal_by_steps_wide (λ m text. (0 < length text) × (1 ≤ m → slice_index text 0 ≢ 48)) (λ m l. (omega arith, λ h e. omega (arith, h, e))) more n small in
    found.1 some
  where
    more : (m : ℕ) (text : List ℕ) → 10 ≤ m → ((0 < length text) × (1 ≤ m / 10 → slice_index text 0 ≢ 48)) →
        (0 < length (text ++ (48 + m % 10) ∷ [])) × (1 ≤ m → slice_index (text ++ (48 + m % 10) ∷ []) 0 ≢ 48)
    more m text l h = (
      rw (length-append text ((48 + m % 10) ∷ [])) (omega arith),
      λ k. rw (get_or_append_left text ((48 + m % 10) ∷ []) 0 0 h.0) (h.1 (omega (arith, l))),
    )

decimal_plain : (n : ℕ) → n < 10 ^ 64 → is_plain (decimal n) ≡ true
decimal_plain n small =
    let numeral = (decimal_is_IsNumeral_wide n small).0 in
    and_true (and_true (lt-ltb 0 (length (decimal n)) numeral.0) (digits_tested (decimal n) numeral.1)) (lead n (cases_lt n 10) small)
  where
    and_true : {a b : Bool} → a ≡ true → b ≡ true → (a && b) ≡ true
    and_true e f = rw (e, f) refl

    or_left : (a b : Bool) → a ≡ true → (a || b) ≡ true
    or_left a b e = rw e refl

    or_right : (a : Bool) {b : Bool} → b ≡ true → (a || b) ≡ true
    or_right true e = refl
    or_right false e = e

    lead : (n : ℕ) → (n < 10) ⊎ (10 ≤ n) → n < 10 ^ 64 → (nat_eq (length (decimal n)) 1 || not (nat_eq (slice_index (decimal n) 0) 48)) ≡ true
    lead n (inl one) small = or_left (nat_eq (length (decimal n)) 1) (not (nat_eq (slice_index (decimal n) 0) 48)) (rw (decimal_digit n one) refl)
    lead n (inr more) small = or_right (nat_eq (length (decimal n)) 1) (rw (ne_eqb (slice_index (decimal n) 0) 48 (no_zero_first n small (omega (arith, more)))) refl)

-- a plain text is what is printed of its number
plain_printed : (text : List ℕ) → is_plain text ≡ true → digits_value 10 text < 10 ^ 64 → decimal (digits_value 10 text) ≡ text
plain_printed text plain small =
    let parts = both (is_number text) _ plain in
    let number = both (nat_lt 0 (length text)) (list_all is_ascii_digit text) parts.0 in
    printed text (digits_told text number.1) (ltb-true 0 (length text) number.0) (lead (length text) (slice_index text 0) parts.1) small
  where
    lead : (n c : ℕ) → (nat_eq n 1 || not (nat_eq c 48)) ≡ true → c ≡ 48 → n ≡ 1
    lead n c e is =
        elim (nat_eq n 1) as (λ b. nat_eq n 1 ≡ b → (b || not (nat_eq c 48)) ≡ true → n ≡ 1) [
          | true ↦ λ same _. eqb-true n 1 same
          | false ↦ λ _ f. let bad : false ≡ true = rw (eq-eqb c 48 is) at f in cc
        ] refl e

module _ (most : ℕ) (small : most < 2 ^ 128) where
  of_decimal : (n : ℕ) → n ≤ most → natural_of most (decimal n) ≡ Some n
  of_decimal n h =
      let wide : n < 10 ^ 64 = omega (arith, h, small) in
      rw (decimal_plain n wide, (decimal_is_IsNumeral_wide n wide).1, le-leb n most h) refl

  only_decimal : (text : List ℕ) (n : ℕ) → natural_of most text ≡ Some n → (n ≤ most) × (text ≡ decimal n)
  only_decimal text n e = way (is_plain text) refl e
    where
      same : (m n : ℕ) → Some m ≡ Some n → m ≡ n
      same m n e = cc

      fits : (m n : ℕ) → at_most most m ≡ Some n → (m ≤ most) × (m ≡ n)
      fits m n e =
          elim (nat_le m most) as (λ b. nat_le m most ≡ b → cond b (Some m) None ≡ Some n → (m ≤ most) × (m ≡ n)) [
            | true ↦ λ l f. (leb-true m most l, same m n f)
            | false ↦ λ _ f. let bad : None ≡ Some n = f in cc
          ] refl e

      way : (b : Bool) → is_plain text ≡ b → cond b (at_most most (digits_value 10 text)) None ≡ Some n → (n ≤ most) × (text ≡ decimal n)
      way true plain e =
          let found = fits (digits_value 10 text) n e in
          (omega (arith, found.0, found.1), sym (plain_printed text plain (omega (arith, found.0, small))) ∙ ap decimal found.1)
      way false plain e = let bad : None ≡ Some n = e in cc

  -- no number begins with a minus sign
  no_sign : (n : ℕ) → n ≤ most → slice_index (decimal n) 0 ≢ 45
  no_sign n h e = first (decimal n) (decimal_is_IsNumeral_wide n (omega (arith, h, small))).0.1 (decimal_is_IsNumeral_wide n (omega (arith, h, small))).0.0 e
    where
      first : (text : List ℕ) → AllDigits 10 text → 0 < length text → slice_index text 0 ≡ 45 → ⊥
      first [] d some e = omega (arith, some)
      first (c ∷ text) d some e = omega (arith, digit_from_value c d.0, e)

  of_signed : (z : ℤ) → nat_abs z ≤ most → integer_of most (signed_decimal z) ≡ Some z
  of_signed (pos n) h = rw (ne_eqb (slice_index (decimal n) 0) 45 (no_sign n h), of_decimal n h) refl
  of_signed (negsuc n) h = rw (of_decimal (suc n) h) refl

  only_signed : (text : List ℕ) (z : ℤ) → integer_of most text ≡ Some z → (nat_abs z ≤ most) × (text ≡ signed_decimal z)
  only_signed text z e =
      elim (nat_eq (slice_index text 0) 45) as (λ b. nat_eq (slice_index text 0) 45 ≡ b → cond b (option_and_then below_zero (natural_of most (drop 1 text))) (option_map pos (natural_of most text)) ≡ Some z → (nat_abs z ≤ most) × (text ≡ signed_decimal z)) [
        | true ↦ λ minus f. negative (natural_of most (drop 1 text)) (only_decimal (drop 1 text)) (minus_first text (eqb-true (slice_index text 0) 45 minus)) f
        | false ↦ λ _ f. positive (natural_of most text) (only_decimal text) f
      ] refl e
    where
      minus_first : (text : List ℕ) → slice_index text 0 ≡ 45 → text ≡ 45 ∷ drop 1 text
      minus_first [] e = absurd (omega (arith, e))
      minus_first (c ∷ text) e = ap (λ b. b ∷ text) e

      positive : (found : Option ℕ) → ((n : ℕ) → found ≡ Some n → (n ≤ most) × (text ≡ decimal n)) → option_map pos found ≡ Some z → (nat_abs z ≤ most) × (text ≡ signed_decimal z)
      positive None only f = let bad : None ≡ Some z = f in cc
      positive (Some n) only f = let is : pos n ≡ z = same_int (pos n) z f in subst (λ z. (nat_abs z ≤ most) × (text ≡ signed_decimal z)) is (only n refl)
        where
          same_int : (y z : ℤ) → Some y ≡ Some z → y ≡ z
          same_int y z e = cc

      negative : (found : Option ℕ) → ((n : ℕ) → found ≡ Some n → (n ≤ most) × (drop 1 text ≡ decimal n)) → text ≡ 45 ∷ drop 1 text → option_and_then below_zero found ≡ Some z → (nat_abs z ≤ most) × (text ≡ signed_decimal z)
      negative None only first f = let bad : None ≡ Some z = f in cc
      negative (Some zero) only first f = let bad : None ≡ Some z = f in cc
      negative (Some (suc n)) only first f =
          let is : negsuc n ≡ z = same_int (negsuc n) z f in
          let known = only (suc n) refl in
          subst (λ z. (nat_abs z ≤ most) × (text ≡ signed_decimal z)) is (known.0, first ∙ ap (λ digits. 45 ∷ digits) known.1)
        where
          same_int : (y z : ℤ) → Some y ≡ Some z → y ≡ z
          same_int y z e = cc

  pub read_as_printed : IsReadAsPrinted most
  read_as_printed = record { naturals = of_decimal; integers = of_signed; only_naturals = only_decimal; only_integers = only_signed }

-- the digit at a place, and its worth
pub digit_there : (digits : List ℕ) (i : ℕ) → list_all is_ascii_digit digits ≡ true → i < length digits → digit_value (get_or digits i 0) + 48 ≡ get_or digits i 0
digit_there digits i all l = digit_value_digit (get_or digits i 0) (digit_at digits i (digits_told digits all) l)

-- a number whose front is too great is too great
pub too_great : (most value : ℕ) (digits : List ℕ) (i : ℕ) → i < length digits → digits_value_after 10 value (drop i digits) ≡ digits_value 10 digits →
    most < value * 10 + digit_value (get_or digits i 0) → at_most most (digits_value 10 digits) ≡ None
too_great most value digits i l so_far over =
    let grows = value_grows (value * 10 + digit_value (get_or digits i 0)) (drop (suc i) digits) in
    let is : digits_value_after 10 (value * 10 + digit_value (get_or digits i 0)) (drop (suc i) digits) ≡ digits_value 10 digits = rw (drop-cons digits i 0 l) at so_far in
    rw (lt-leb (digits_value 10 digits) most (beyond grows is over)) refl
  where
    beyond : {a b c m : ℕ} → a ≤ b → b ≡ c → m < a → m < c
    beyond h e l = omega arith
