-- What the readers of one line find.
use Rattle.std.proofs.Common.{◌≡◌, ◌≢◌, ℕ, ◌<◌, ◌≤◌, ◌^◌, ◌⊎◌, MatchOption, List, ◌∷◌, ◌++◌, Option, Some, None, codes, decimal, sym, ap, ◌∙◌, subst, arith, inl, ap₂}
use Rattle.std.proofs.lemmas.Option.{none-some, same_Some}
use Rattle.ratio_core.specs.Fraction.{Fraction, gcd_of}
use Rattle.std.specs.Int.{IsGcd}
use Rattle.ratio_core.proofs.GcdLemmas.{gcd_of_is}
use Rattle.platform_file.specs.Ticks.{TimedView}
use Rattle.text_lines.specs.Lines.{parted, first_line, behind}
use Rattle.text_lines.specs.Numbers.{IsReadAsPrinted, natural_of}
use Rattle.text_lines.proofs.FirstLines.{IsParted, part_first, part_split}
use Rattle.text_lines.proofs.Words.{behind_read, behind_back, decimal_lacks}
use Rattle.plan_text.specs.Reading.{IsNext, HasNoNext, IsNumberLine, IsUnitLine, ArePair, IsRateLine}
use Rattle.plan_text.proofs.RowWords.{decimal_unique}

abbrev over : ℕ → ℕ → Fraction
over n d = record { num = n; den = d }

-- the number of a line
pub number_unread : (word text : List ℕ) → behind word text ≡ None → (n : ℕ) → IsNumberLine word text n → ⊥
number_unread word text e n line = let bad : None ≡ Some (decimal n) = sym e ∙ ap (behind word) line.is_line ∙ behind_back word (decimal n) in cc

pub number_found : (word text rest : List ℕ) (found : Option ℕ) → IsReadAsPrinted (2 ^ 107) → behind word text ≡ Some rest → natural_of (2 ^ 107) rest ≡ found →
    MatchOption found ((n : ℕ) → IsNumberLine word text n → ⊥) (λ n. IsNumberLine word text n)
number_found word text rest None read is e = λ n line.
    let same : rest ≡ decimal n = same_Some _ _ (sym is ∙ ap (behind word) line.is_line ∙ behind_back word (decimal n)) in
    let bad : Some n ≡ None = sym (read.naturals n line.bounded) ∙ ap (natural_of (2 ^ 107)) (sym same) ∙ e in cc
number_found word text rest (Some n) read is e =
    let only = read.only_naturals rest n e in
    record { is_line = behind_read word text rest is ∙ ap (λ r. word ++ r) only.1; bounded = only.0 }

pub number_unique : (word text : List ℕ) (m n : ℕ) → IsNumberLine word text m → IsNumberLine word text n → m ≡ n
number_unique word text m n first second =
    decimal_unique m n (omega (arith, first.bounded)) (omega (arith, second.bounded)) (same_Some _ _ (sym (behind_back word (decimal m)) ∙ ap (behind word) (sym first.is_line ∙ second.is_line) ∙ behind_back word (decimal n)))

-- two numbers round a byte that is no digit
module _ (by most_first most_second : ℕ) (no_digit : (by < 48) ⊎ (57 < by)) (small : most_first < 10 ^ 64) (few : most_second < 10 ^ 64) (text : List ℕ) where
  pair_parted : (a b : ℕ) → ArePair by most_first most_second text a b → parted by text ≡ Some (decimal a, decimal b)
  pair_parted a b pair = ap (parted by) pair.is_text ∙ part_first by (decimal a) (decimal b) (decimal_lacks by a (omega (arith, pair.first_bounded, small)) no_digit)

  pub pair_unparted : parted by text ≡ None → (a b : ℕ) → ArePair by most_first most_second text a b → ⊥
  pair_unparted e a b pair = none-some _ (sym e ∙ pair_parted a b pair)

  pub pair_unique : (a b c d : ℕ) → ArePair by most_first most_second text a b → ArePair by most_first most_second text c d → (a ≡ c) × (b ≡ d)
  pair_unique a b c d first second =
      let same = same_Some _ _ (sym (pair_parted a b first) ∙ pair_parted c d second) in (
        decimal_unique a c (omega (arith, first.first_bounded, small)) (omega (arith, second.first_bounded, small)) (ap (λ p. p.0) same),
        decimal_unique b d (omega (arith, first.second_bounded, few)) (omega (arith, second.second_bounded, few)) (ap (λ p. p.1) same),
      )

  module _ (left right : List ℕ) (is : parted by text ≡ Some (left, right)) where
    their_parts : (a b : ℕ) → ArePair by most_first most_second text a b → (left ≡ decimal a) × (right ≡ decimal b)
    their_parts a b pair = let same = same_Some _ _ (sym is ∙ pair_parted a b pair) in (ap (λ p. p.0) same, ap (λ p. p.1) same)

    pub pair_unread_first : IsReadAsPrinted most_first → natural_of most_first left ≡ None → (a b : ℕ) → ArePair by most_first most_second text a b → ⊥
    pair_unread_first read e a b pair = let bad : Some a ≡ None = sym (read.naturals a pair.first_bounded) ∙ ap (natural_of most_first) (sym (their_parts a b pair).0) ∙ e in cc

    pub pair_unread_second : IsReadAsPrinted most_second → natural_of most_second right ≡ None → (a b : ℕ) → ArePair by most_first most_second text a b → ⊥
    pair_unread_second read e a b pair = let bad : Some b ≡ None = sym (read.naturals b pair.second_bounded) ∙ ap (natural_of most_second) (sym (their_parts a b pair).1) ∙ e in cc

    pub pair_found : IsReadAsPrinted most_first → IsReadAsPrinted most_second → (a b : ℕ) → natural_of most_first left ≡ Some a → natural_of most_second right ≡ Some b → ArePair by most_first most_second text a b
    pair_found read also a b e f =
        let first = read.only_naturals left a e in
        let second = also.only_naturals right b f in
        let split : IsParted by text (Some (left, right)) = subst (IsParted by text) is (part_split by text) in
        record { is_text = split.0 ∙ ap₂ (λ left right. left ++ by ∷ right) first.1 second.1; first_bounded = first.0; second_bounded = second.0 }

-- the rate of a line
pub rate_unread : (text : List ℕ) → behind (codes "rate ") text ≡ None → (rate : Fraction) → IsRateLine text rate → ⊥
rate_unread text e rate line = let bad : None ≡ Some line.part = sym e ∙ ap (behind (codes "rate ")) line.is_line ∙ behind_back (codes "rate ") line.part in cc

pub rate_part : (text rest : List ℕ) → behind (codes "rate ") text ≡ Some rest → (rate : Fraction) → IsRateLine text rate → ArePair 47 (2 ^ 127) (2 ^ 127) rest rate.num rate.den
rate_part text rest is rate line =
    subst (λ r. ArePair 47 (2 ^ 127) (2 ^ 127) r rate.num rate.den) (same_Some _ _ (sym (behind_back (codes "rate ") line.part) ∙ ap (behind (codes "rate ")) (sym line.is_line) ∙ is)) line.numbers

-- the numbers of a rate by what stands behind its word
pub rate_numbers : (text rest : List ℕ) (num den : ℕ) → behind (codes "rate ") text ≡ Some rest → ArePair 47 (2 ^ 127) (2 ^ 127) rest num den → (rate : Fraction) → IsRateLine text rate →
    (num ≡ rate.num) × (den ≡ rate.den)
rate_numbers text rest num den is pair rate line =
    pair_unique 47 (2 ^ 127) (2 ^ 127) (inl (omega arith)) (omega arith) (omega arith) rest num den rate.num rate.den pair (rate_part text rest is rate line)

pub rate_unique : (text : List ℕ) (f g : Fraction) → IsRateLine text f → IsRateLine text g → f ≡ g
rate_unique text f g first second =
    let same = rate_numbers text first.part f.num f.den (ap (behind (codes "rate ")) first.is_line ∙ behind_back (codes "rate ") first.part) first.numbers g second in
    ap₂ over same.0 same.1

-- a rate whose numbers have no common divisor
pub rate_found : (text rest : List ℕ) (num den : ℕ) → behind (codes "rate ") text ≡ Some rest → ArePair 47 (2 ^ 127) (2 ^ 127) rest num den → 1 ≤ den → IsGcd num den 1 → IsRateLine text (over num den)
rate_found text rest num den is pair some lowest = record { part = rest; is_line = behind_read (codes "rate ") text rest is; numbers = pair; lowest = record { some_den = some; lowest = lowest } }

-- the numbers of a rate have none, and the second isn't 0
pub rate_lowest : (text rest : List ℕ) (num den : ℕ) → behind (codes "rate ") text ≡ Some rest → ArePair 47 (2 ^ 127) (2 ^ 127) rest num den → (rate : Fraction) → IsRateLine text rate →
    (1 ≤ den) × (gcd_of num den ≡ 1)
rate_lowest text rest num den is pair rate line =
    let same = rate_numbers text rest num den is pair rate line in
    (rw same.1 line.lowest.some_den, rw (same.0, same.1) (sym (gcd_of_is rate.num rate.den 1 line.lowest.lowest)))

-- the next line
pub no_line : {A : Type 0} (means : List ℕ → A → Type 0) (bytes : List ℕ) → first_line bytes ≡ None → HasNoNext means bytes
no_line means bytes e value left next = let bad : None ≡ Some (next.text, left) = sym e ∙ next.split in cc

pub no_meaning : {A : Type 0} (means : List ℕ → A → Type 0) (bytes text rest : List ℕ) → first_line bytes ≡ Some (text, rest) → ((value : A) → means text value → ⊥) → HasNoNext means bytes
no_meaning means bytes text rest is none value left next =
    none value (subst (λ (p : List ℕ × List ℕ). means p.0 value) (same_Some _ _ (sym next.split ∙ is)) next.meaning)

pub is_next : {A : Type 0} (means : List ℕ → A → Type 0) (bytes text rest : List ℕ) (value : A) → first_line bytes ≡ Some (text, rest) → means text value → IsNext means bytes value rest
is_next means bytes text rest value is meaning = record { text = text; split = is; meaning = meaning }

-- the next line that is of the unit
module _ (t : TimedView) (bytes : List ℕ) where
  pub unit_unread : HasNoNext (IsNumberLine (codes "unit ")) bytes → HasNoNext (IsUnitLine t) bytes
  unit_unread none value left next = none value left (record { text = next.text; split = next.split; meaning = next.meaning.1 })

  pub unit_other : (unit : ℕ) (left : List ℕ) → IsNext (IsNumberLine (codes "unit ")) bytes unit left → unit ≢ t.unit → HasNoNext (IsUnitLine t) bytes
  unit_other unit left read other value rest next =
      let same : next.text ≡ read.text = ap (λ (p : List ℕ × List ℕ). p.0) (same_Some _ _ (sym next.split ∙ read.split)) in
      other (number_unique (codes "unit ") read.text unit value read.meaning (subst (λ text. IsNumberLine (codes "unit ") text value) same next.meaning.1) ∙ next.meaning.0)
