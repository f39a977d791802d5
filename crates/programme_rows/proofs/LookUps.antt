-- Columns that a test tells apart, and the values that are looked up by it.
use Rattle.std.proofs.Common.{◌≡◌, ℕ, zero, suc, ◌+◌, ◌-◌, ◌<◌, Bool, true, false, cond, List, [], ◌∷◌, ◌++◌, nat_eq, length, slice_index_or, All, refl, sym, ap, ◌∙◌, arith, inl, inr}
use Rattle.std.proofs.lemmas.Bool.Decides.{nat_tests}
use Rattle.std.proofs.lemmas.Bool.{cases_lt}
use Rattle.std.proofs.lemmas.List.{length-append, get_or_append_left}
use Rattle.std.proofs.Math.Seq.{get_or-append_right}
use Rattle.std.proofs.lemmas.List.Elements.{All-head, All-tail, All-cons, All-nil, All-get_or}
use Rattle.ratio_core.specs.Fraction.{Fraction, whole}
use Rattle.programme_rows.specs.Listings.{each_where}
use Rattle.programme_rows.specs.LookUps.{value_of}
use Rattle.programme_rows.proofs.Listings.{each_all}

-- what is no column has no value
pub none_there : {A : Type 0} (is : A → Bool) (columns : List A) (values : List Fraction) → All (λ one. is one ≡ false) columns → value_of is columns values ≡ whole 0
none_there is [] values other = refl
none_there is (one ∷ columns) [] other = refl
none_there is (one ∷ columns) (value ∷ values) other =
    rw (All-head (λ c. is c ≡ false) one columns other) (none_there is columns values (All-tail (λ c. is c ≡ false) one columns other))

module _ {A : Type 0} (same : A → A → Bool) (base : A) where
  -- no column is the same as a later one
  abbrev pub AreDifferent : List A → Type 0
  AreDifferent columns = (i j : ℕ) → i < j → j < length columns → same (slice_index_or columns j base) (slice_index_or columns i base) ≡ false

  -- where that is so, each has the value of its number
  pub found : (itself : (column : A) → same column column ≡ true) (columns : List A) (values : List Fraction) (j : ℕ) → AreDifferent columns → j < length columns → length values ≡ length columns →
      value_of (same (slice_index_or columns j base)) columns values ≡ slice_index_or values j (whole 0)
  found itself [] values j different l e = absurd (omega arith)
  found itself (one ∷ columns) [] j different l e = absurd (omega arith)
  found itself (one ∷ columns) (value ∷ values) zero different l e = rw (itself one) refl
  found itself (one ∷ columns) (value ∷ values) (suc j) different l e =
      rw (different 0 (suc j) (omega arith) l) (found itself columns values j (λ a b below inside. different (suc a) (suc b) (omega arith) (omega arith)) (omega arith) (omega arith))

  -- so are those of two lists that are told apart
  pub different_append : (xs ys : List A) → AreDifferent xs → AreDifferent ys → All (λ y. All (λ x. same y x ≡ false) xs) ys → AreDifferent (xs ++ ys)
  different_append xs ys one other cross i j below l =
      elim (cases_lt j (length xs)) [
        | inl inside ↦ rw (get_or_append_left xs ys base j inside, get_or_append_left xs ys base i (omega (arith, below, inside))) (one i j below inside)
        | inr past ↦
            let size : length (xs ++ ys) ≡ length xs + length ys = length-append xs ys in
            let k : j - length xs < length ys = omega (arith, past, l, size) in
            elim (cases_lt i (length xs)) [
              | inl inside ↦
                  rw (get_or-append_right xs ys j base past, get_or_append_left xs ys base i inside)
                  (All-get_or (λ x. same (slice_index_or ys (j - length xs) base) x ≡ false) xs i base inside (All-get_or (λ y. All (λ x. same y x ≡ false) xs) ys (j - length xs) base k cross))
              | inr later ↦
                  rw (get_or-append_right xs ys j base past, get_or-append_right xs ys i base later)
                  (other (i - length xs) (j - length xs) (omega (arith, below, later, past)) k)
            ]
      ]

  -- so are the values at the numbers that pass, where later ones are told from earlier ones
  pub different_each : (passes : ℕ → Bool) (f : ℕ → A) → ((i n : ℕ) → i < n → same (f n) (f i) ≡ false) → (n : ℕ) → AreDifferent (each_where passes f n)
  different_each passes f differ zero = λ i j below l. absurd (omega arith)
  different_each passes f differ (suc n) =
      different_append (each_where passes f n) (cond (passes n) (f n ∷ []) []) (different_each passes f differ n) (alone (passes n)) (cross (passes n))
    where
      alone : (b : Bool) → AreDifferent (cond b (f n ∷ []) [])
      alone true = λ i j below l. absurd (omega arith)
      alone false = λ i j below l. absurd (omega arith)

      before : All (λ x. same (f n) x ≡ false) (each_where passes f n)
      before = each_all (λ x. same (f n) x ≡ false) passes f n (λ i l e. differ i n l)

      cross : (b : Bool) → All (λ y. All (λ x. same y x ≡ false) (each_where passes f n)) (cond b (f n ∷ []) [])
      cross true = All-cons (λ y. All (λ x. same y x ≡ false) (each_where passes f n)) (f n) [] before (All-nil (λ y. All (λ x. same y x ≡ false) (each_where passes f n)))
      cross false = All-nil (λ y. All (λ x. same y x ≡ false) (each_where passes f n))

-- ---- numbers

-- numbers that a test of equality tells apart
pub itself : (n : ℕ) → nat_eq n n ≡ true
itself n = grind (arith, nat_tests)

pub earlier : (i n : ℕ) → i < n → nat_eq n i ≡ false
earlier i n l = grind (arith, nat_tests)

-- a number that fails is another than one that passes
pub other_number : (passes : ℕ → Bool) (n i : ℕ) → passes n ≡ false → passes i ≡ true → nat_eq n i ≡ false
other_number passes n i e f = go (nat_eq n i) refl
  where
    go : (b : Bool) → nat_eq n i ≡ b → b ≡ false
    go false g = refl
    go true g = let is : n ≡ i = grind (arith, nat_tests) in let bad : false ≡ true = sym e ∙ ap passes is ∙ f in absurd cc
