-- What the sums of the check mean, and why it proves.
use Rattle.std.proofs.Common.{◌≡◌, ℕ, zero, suc, ◌<◌, ◌≤◌, ◌^◌, Bool, true, false, ℤ, pos, negsuc, ◌+ℤ◌, ◌*ℤ◌, ◌≤ℤ◌, ◌<ℤ◌, nat_abs, nat_lt, cond, List, [], ◌∷◌, length, slice_index_or, All, Option, Some, None, option_and_then, refl, sym, ap, ◌∙◌, subst, arith, inl, inr}
use Rattle.std.specs.Prelude.{int_lt}
use Rattle.std.specs.Option.{is_some}
use Rattle.std.proofs.lemmas.Int.{ints}
use Rattle.std.proofs.lemmas.Bool.{cases_lt}
use Rattle.std.proofs.lemmas.List.{get_or_default}
use Rattle.linear_program.specs.Certificates.{CertificateView, IsCertificate}
use Rattle.linear_program.specs.Duality.{priced_column, priced_sides, IsDualFeasible}
use Rattle.linear_program.specs.Pivots.{first_some, first_below}
use Rattle.linear_program.specs.Programmes.{RowView, LpView, cell_at, row_at, gain_at}
use Rattle.linear_program.specs.Sizes.{fitting}
use Rattle.linear_program.specs.Sums.{sum_below}
use Rattle.linear_program.proofs.Sums.{first_sum}
use Rattle.linear_program.proofs.Searches.{none_passes, first_passes}
use Rattle.dual_checker.specs.declared.verdict.Verdict.{Verdict}
use Rattle.dual_checker.specs.declared.verdict.Verdict.TheVariants.{Proves, Negative, Column, Value, Overflow}
use Rattle.dual_checker.specs.Verdicts.{price_at, fitting_more, fitting_sum, covered, column_fault, first_fault, against, value_verdict, verdict_by, verdict_of, IsProof, ProvesOrOverflows}

-- a test of whole numbers, both ways
not_less : (a b : ℤ) → int_lt a b ≡ false → b ≤ℤ a
not_less a b e = omega (arith, ints)

less : (a b : ℤ) → int_lt a b ≡ true → a <ℤ b
less a b e = omega (arith, ints)

-- a number that is not below 0 is its size
its_size : (z : ℤ) → pos 0 ≤ℤ z → z ≡ pos (nat_abs z)
its_size (pos n) h = omega (arith, ints)
its_size (negsuc n) h = absurd (omega (arith, ints))

-- the row of a number, one without cells beyond the last
abbrev at : List RowView → ℕ → RowView
at rows i = slice_index_or rows i (record { cells = []; rhs = pos 0 })

-- what the cells of a column and the right-hand sides cost, by index
column_by_index : (rows : List RowView) (prices : List ℤ) (j : ℕ) → length prices ≡ length rows →
    priced_column rows prices j ≡ sum_below (length rows) (λ i. price_at prices i *ℤ cell_at (at rows i).cells j)
column_by_index [] prices j e = refl
column_by_index (row ∷ rows) [] j e = absurd (omega (arith, e))
column_by_index (row ∷ rows) (price ∷ prices) j e =
    ap (λ z. price *ℤ cell_at row.cells j +ℤ z) (column_by_index rows prices j (omega (arith, e)))
    ∙ sym (first_sum (length rows) (λ i. price_at (price ∷ prices) i *ℤ cell_at (at (row ∷ rows) i).cells j))

sides_by_index : (rows : List RowView) (prices : List ℤ) → length prices ≡ length rows →
    priced_sides rows prices ≡ sum_below (length rows) (λ i. price_at prices i *ℤ (at rows i).rhs)
sides_by_index [] prices e = refl
sides_by_index (row ∷ rows) [] e = absurd (omega (arith, e))
sides_by_index (row ∷ rows) (price ∷ prices) e =
    ap (λ z. price *ℤ row.rhs +ℤ z) (sides_by_index rows prices (omega (arith, e)))
    ∙ sym (first_sum (length rows) (λ i. price_at (price ∷ prices) i *ℤ (at (row ∷ rows) i).rhs))

-- a number that fits is itself
abbrev IsIt : ℤ → Option ℤ → Type 0
IsIt z None = Unit {0}
IsIt z (Some y) = y ≡ z

fits : (z : ℤ) → IsIt z (fitting z)
fits z = elim (nat_lt (nat_abs z) (2 ^ 127)) as (λ b. IsIt z (cond b (Some z) None)) [ true ↦ refl | false ↦ tt ]

-- a sum with one product more
more_is : (sum price number : ℤ) → IsIt (sum +ℤ price *ℤ number) (fitting_more sum price number)
more_is sum price number = way (fitting (price *ℤ number)) (fits (price *ℤ number))
  where
    way : (product : Option ℤ) → IsIt (price *ℤ number) product → IsIt (sum +ℤ price *ℤ number) (option_and_then (λ product. fitting (sum +ℤ product)) product)
    way None is = tt
    way (Some product) is = rw (← is) (fits (sum +ℤ product))

-- the sum of prices times numbers, where it fits
pub sum_is : (prices : List ℤ) (number : ℕ → ℤ) (n : ℕ) → IsIt (sum_below n (λ i. price_at prices i *ℤ number i)) (fitting_sum prices number n)
sum_is prices number zero = refl
sum_is prices number (suc n) = way (fitting_sum prices number n) (sum_is prices number n)
  where
    way : (before : Option ℤ) → IsIt (sum_below n (λ i. price_at prices i *ℤ number i)) before →
        IsIt (sum_below n (λ i. price_at prices i *ℤ number i) +ℤ price_at prices n *ℤ number n) (option_and_then (λ sum. fitting_more sum (price_at prices n) (number n)) before)
    way None is = tt
    way (Some sum) is = rw (← is) (more_is sum (price_at prices n) (number n))

-- where no column is at fault none is
pub no_fault : (p : LpView) (c : CertificateView) (n j : ℕ) → first_fault p c n ≡ None → j < n → column_fault p c j ≡ None
no_fault p c zero j none l = absurd (omega (arith, l))
no_fault p c (suc n) j none l =
    let parts = neither (first_fault p c n) (column_fault p c n) none in
    elim (cases_lt j n) [
      | inl before ↦ no_fault p c n j parts.0 before
      | inr last ↦ let same : n ≡ j = omega (arith, last, l) in rw (← same) parts.1
    ]
  where
    neither : (a b : Option Verdict) → first_some a b ≡ None → (a ≡ None) × (b ≡ None)
    neither None b e = (refl, e)
    neither (Some v) b e = let bad : Some v ≡ None = e in cc

-- what a fault of a column can be
abbrev pub IsColumnFault : LpView → CertificateView → Option Verdict → Type 0
IsColumnFault p c None = Unit {0}
IsColumnFault p c (Some Proves) = ⊥
IsColumnFault p c (Some (Negative k)) = ⊥
IsColumnFault p c (Some Value) = ⊥
IsColumnFault p c (Some (Overflow k)) = Unit {0}
IsColumnFault p c (Some (Column k)) = (k < p.columns) × (priced_column p.rows c.prices k <ℤ (c.scale *ℤ gain_at p k))

-- a column that isn't covered costs less than it has to, and one that is costs enough
module _ (p : LpView) (c : CertificateView) (sizes : length c.prices ≡ length p.rows) where
  column_is : (j : ℕ) → IsIt (priced_column p.rows c.prices j) (fitting_sum c.prices (λ i. cell_at (row_at p i).cells j) (length p.rows))
  column_is j = rw (column_by_index p.rows c.prices j sizes) (sum_is c.prices (λ i. cell_at (row_at p i).cells j) (length p.rows))

  fault_of_column : (j : ℕ) → j < p.columns → IsColumnFault p c (column_fault p c j)
  fault_of_column j l = way (fitting (c.scale *ℤ gain_at p j)) (fitting_sum c.prices (λ i. cell_at (row_at p i).cells j) (length p.rows)) (fits (c.scale *ℤ gain_at p j)) (column_is j)
    where
      compared : (least sum : ℤ) (b : Bool) → int_lt sum least ≡ b → least ≡ c.scale *ℤ gain_at p j → sum ≡ priced_column p.rows c.prices j → IsColumnFault p c (cond b (Some (Column j)) None)
      compared least sum true e f g = (l, rw (← f, ← g) (less sum least e))
      compared least sum false e f g = tt

      way : (least sum : Option ℤ) → IsIt (c.scale *ℤ gain_at p j) least → IsIt (priced_column p.rows c.prices j) sum → IsColumnFault p c (covered j least sum)
      way (Some least) (Some sum) f g = compared least sum (int_lt sum least) refl f g
      way (Some least) None f g = tt
      way None None f g = tt
      way None (Some sum) f g = tt

  covers : (j : ℕ) → column_fault p c j ≡ None → (c.scale *ℤ gain_at p j) ≤ℤ priced_column p.rows c.prices j
  covers j none = way (fitting (c.scale *ℤ gain_at p j)) (fitting_sum c.prices (λ i. cell_at (row_at p i).cells j) (length p.rows)) (fits (c.scale *ℤ gain_at p j)) (column_is j) none
    where
      compared : (least sum : ℤ) (b : Bool) → int_lt sum least ≡ b → least ≡ c.scale *ℤ gain_at p j → sum ≡ priced_column p.rows c.prices j → cond b (Some (Column j)) None ≡ None → (c.scale *ℤ gain_at p j) ≤ℤ priced_column p.rows c.prices j
      compared least sum true e f g h = let bad : Some (Column j) ≡ None = h in cc
      compared least sum false e f g h = rw (← f, ← g) (not_less sum least e)

      way : (least sum : Option ℤ) → IsIt (c.scale *ℤ gain_at p j) least → IsIt (priced_column p.rows c.prices j) sum → covered j least sum ≡ None → (c.scale *ℤ gain_at p j) ≤ℤ priced_column p.rows c.prices j
      way (Some least) (Some sum) f g h = compared least sum (int_lt sum least) refl f g h
      way (Some least) None f g h = let bad : Some (Overflow j) ≡ None = h in cc
      way None None f g h = let bad : Some (Overflow j) ≡ None = h in cc
      way None (Some sum) f g h = let bad : Some (Overflow j) ≡ None = h in cc

  fault_is : (n : ℕ) → n ≤ p.columns → IsColumnFault p c (first_fault p c n)
  fault_is zero h = tt
  fault_is (suc n) h = first (first_fault p c n) (column_fault p c n) (fault_is n (omega (arith, h))) (fault_of_column n (omega (arith, h)))
    where
      first : (a b : Option Verdict) → IsColumnFault p c a → IsColumnFault p c b → IsColumnFault p c (first_some a b)
      first None b f g = g
      first (Some v) b f g = f

  sides_are : IsIt (priced_sides p.rows c.prices) (fitting_sum c.prices (λ i. (row_at p i).rhs) (length p.rows))
  sides_are = rw (sides_by_index p.rows c.prices sizes) (sum_is c.prices (λ i. (row_at p i).rhs) (length p.rows))

  within_best : value_verdict p c ≡ Proves → priced_sides p.rows c.prices ≤ℤ c.best
  within_best e = way (fitting_sum c.prices (λ i. (row_at p i).rhs) (length p.rows)) sides_are e
    where
      compared : (sum : ℤ) (b : Bool) → int_lt c.best sum ≡ b → sum ≡ priced_sides p.rows c.prices → cond b Value Proves ≡ Proves → priced_sides p.rows c.prices ≤ℤ c.best
      compared sum true e f h = let bad : Value ≡ Proves = h in cc
      compared sum false e f h = rw (← f) (not_less c.best sum e)

      way : (sum : Option ℤ) → IsIt (priced_sides p.rows c.prices) sum → against p.columns c.best sum ≡ Proves → priced_sides p.rows c.prices ≤ℤ c.best
      way (Some sum) f h = compared sum (int_lt c.best sum) refl f h
      way None f h = let bad : Overflow p.columns ≡ Proves = h in cc

  abbrev negative : Option ℕ
  negative = first_below (length c.prices) (λ k. int_lt (price_at c.prices k) (pos 0))

  not_negative : negative ≡ None → All (λ price. pos 0 ≤ℤ price) c.prices
  not_negative none k d l = rw (get_or_default c.prices k d (pos 0) l) (not_less (price_at c.prices k) (pos 0) (none_passes (length c.prices) (λ k. int_lt (price_at c.prices k) (pos 0)) none k l))

  pub proof_of : IsCertificate c → verdict_of p c ≡ Proves → IsProof p c
  proof_of certificate e = way negative (first_fault p c p.columns) refl refl (fault_is p.columns (omega arith)) e
    where
      way : (k : Option ℕ) (fault : Option Verdict) → negative ≡ k → first_fault p c p.columns ≡ fault → IsColumnFault p c fault → verdict_by k fault (value_verdict p c) ≡ Proves → IsProof p c
      way (Some k) fault f g h e = let bad : Negative k ≡ Proves = e in cc
      way None (Some Proves) f g h e = absurd h
      way None (Some (Negative k)) f g h e = absurd h
      way None (Some Value) f g h e = absurd h
      way None (Some (Overflow k)) f g h e = let bad : Overflow k ≡ Proves = e in cc
      way None (Some (Column k)) f g h e = let bad : Column k ≡ Proves = e in cc
      way None None f g h e = record {
        dual = record {
          some_scale = certificate.some_scale;
          one_each = sizes;
          not_negative = not_negative f;
          covers = λ j l. covers j (no_fault p c p.columns j g l);
        };
        value = within_best e;
      }

  -- the sizes of the scale and of the best are these numbers, as neither is below 0
  pub dual_in_sizes : IsCertificate c → IsProof p c → IsDualFeasible p c.prices (pos (nat_abs c.scale))
  dual_in_sizes certificate proof =
      let some = certificate.some_scale in
      subst (λ scale. IsDualFeasible p c.prices scale) (its_size c.scale (omega (arith, ints, some))) proof.dual

  pub sides_in_sizes : IsCertificate c → IsProof p c → priced_sides p.rows c.prices ≤ℤ pos (nat_abs c.best)
  sides_in_sizes certificate proof = subst (λ best. priced_sides p.rows c.prices ≤ℤ best) (its_size c.best certificate.best_not_negative) proof.value

  pub complete : IsProof p c → ProvesOrOverflows (verdict_of p c)
  complete proof = way negative (first_fault p c p.columns) refl (fault_is p.columns (omega arith))
    where
      some_negative : (k : ℕ) → negative ≡ Some k → ⊥
      some_negative k f =
          let first = first_passes (length c.prices) (λ k. int_lt (price_at c.prices k) (pos 0)) k f in
          let below = less (price_at c.prices k) (pos 0) first.1 in
          let above = proof.dual.not_negative k (pos 0) first.0 in
          omega (arith, ints, below, above)

      compared : (sum : ℤ) (b : Bool) → int_lt c.best sum ≡ b → sum ≡ priced_sides p.rows c.prices → ProvesOrOverflows (cond b Value Proves)
      compared sum true e f = let above = less c.best sum e in let value = proof.value in absurd (omega (arith, ints, above, value, f))
      compared sum false e f = tt

      by_value : (sum : Option ℤ) → IsIt (priced_sides p.rows c.prices) sum → ProvesOrOverflows (against p.columns c.best sum)
      by_value (Some sum) f = compared sum (int_lt c.best sum) refl f
      by_value None f = tt

      way : (k : Option ℕ) (fault : Option Verdict) → negative ≡ k → IsColumnFault p c fault → ProvesOrOverflows (verdict_by k fault (value_verdict p c))
      way (Some k) fault f h = absurd (some_negative k f)
      way None (Some Proves) f h = tt
      way None (Some (Negative k)) f h = absurd h
      way None (Some Value) f h = absurd h
      way None (Some (Overflow k)) f h = tt
      way None (Some (Column k)) f h = let covered = proof.dual.covers k h.0 in let less = h.1 in absurd (omega (arith, ints, covered, less))
      way None None f h = by_value (fitting_sum c.prices (λ i. (row_at p i).rhs) (length p.rows)) sides_are

-- the first fault that is found is that of all columns
pub fault_found : (p : LpView) (c : CertificateView) (n j : ℕ) → j < n → first_fault p c j ≡ None → is_some (column_fault p c j) ≡ true → first_fault p c n ≡ column_fault p c j
fault_found p c zero j l none some = absurd (omega (arith, l))
fault_found p c (suc n) j l none some =
    elim (cases_lt j n) [
      | inl before ↦ kept (first_fault p c n) (column_fault p c n) (fault_found p c n j before none some)
      | inr last ↦ let same : j ≡ n = omega (arith, last, l) in subst (λ m. first_some (first_fault p c m) (column_fault p c m) ≡ column_fault p c j) same (rw none refl)
    ]
  where
    is_first : (a b fault : Option Verdict) → is_some fault ≡ true → a ≡ fault → first_some a b ≡ fault
    is_first (Some v) b fault some e = e
    is_first None b fault some e = let bad : false ≡ true = rw (← e) at some in cc

    kept : (a b : Option Verdict) → a ≡ column_fault p c j → first_some a b ≡ column_fault p c j
    kept a b e = is_first a b (column_fault p c j) some e
