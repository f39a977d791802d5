-- What the check of a certificate says, in whole numbers without bound, with the column at which a sum exceeds 2^127 - 1.
use Rattle.std.specs.Prelude.{ℕ, zero, suc, ℤ, pos, ◌+ℤ◌, ◌*ℤ◌, ◌≤ℤ◌, List, length, Option, Some, None, option_and_then, cond, slice_index_or}
use Rattle.std.specs.Prelude.{int_lt}
use Rattle.linear_program.specs.Certificates.{CertificateView}
use Rattle.linear_program.specs.Duality.{priced_sides, IsDualFeasible}
use Rattle.linear_program.specs.Pivots.{first_some, first_below}
use Rattle.linear_program.specs.Programmes.{LpView, cell_at, row_at, gain_at}
use Rattle.linear_program.specs.Sizes.{fitting}
use Rattle.dual_checker.specs.declared.verdict.Verdict.{Verdict}
use Rattle.dual_checker.specs.declared.verdict.Verdict.TheVariants.{Proves, Negative, Column, Value, Overflow}

-- the price of a row
abbrev pub price_at : List ℤ → ℕ → ℤ
price_at prices k = slice_index_or prices k (pos 0)

-- a sum with a product more, where both fit
abbrev pub fitting_more : ℤ → ℤ → ℤ → Option ℤ
fitting_more sum price number = option_and_then (λ product. fitting (sum +ℤ product)) (fitting (price *ℤ number))

-- the sum of prices times numbers over the first n rows, where every product and every partial sum fits
abbrev pub fitting_sum : List ℤ → (ℕ → ℤ) → ℕ → Option ℤ
fitting_sum prices number zero = Some (pos 0)
fitting_sum prices number (suc n) = option_and_then (λ sum. fitting_more sum (price_at prices n) (number n)) (fitting_sum prices number n)

-- a sum covers what it has to
abbrev pub covered : ℕ → Option ℤ → Option ℤ → Option Verdict
covered j (Some least) (Some sum) = cond (int_lt sum least) (Some (Column j)) None
covered j least None = Some (Overflow j)
covered j None (Some sum) = Some (Overflow j)

-- what is wrong with a column, if anything: it costs less than the scale times its gain
abbrev pub column_fault : LpView → CertificateView → ℕ → Option Verdict
column_fault p c j = covered j (fitting (c.scale *ℤ gain_at p j)) (fitting_sum c.prices (λ i. cell_at (row_at p i).cells j) (length p.rows))

-- what is wrong with the first of n columns with which something is
abbrev pub first_fault : LpView → CertificateView → ℕ → Option Verdict
first_fault p c zero = None
first_fault p c (suc n) = first_some (first_fault p c n) (column_fault p c n)

-- the right-hand sides cost at most the best
abbrev pub against : ℕ → ℤ → Option ℤ → Verdict
against columns best (Some sum) = cond (int_lt best sum) Value Proves
against columns best None = Overflow columns

-- where no column is at fault, the verdict on the value
abbrev pub value_verdict : LpView → CertificateView → Verdict
value_verdict p c = against p.columns c.best (fitting_sum c.prices (λ i. (row_at p i).rhs) (length p.rows))

-- the first that applies: a price below 0, a column at fault, the value
abbrev pub verdict_by : Option ℕ → Option Verdict → Verdict → Verdict
verdict_by (Some k) fault otherwise = Negative k
verdict_by None (Some fault) otherwise = fault
verdict_by None None otherwise = otherwise

-- the verdict on a certificate of a programme
abbrev pub verdict_of : LpView → CertificateView → Verdict
verdict_of p c = verdict_by (first_below (length c.prices) (λ k. int_lt (price_at c.prices k) (pos 0))) (first_fault p c p.columns) (value_verdict p c)

-- the certificate proves that no point gains more than best over scale
pub record IsProof (p : LpView) (c : CertificateView) : Type 0 where
  pub dual : IsDualFeasible p c.prices c.scale
  pub value : priced_sides p.rows c.prices ≤ℤ c.best

-- it proves, or a sum of the check exceeds 2^127 - 1
abbrev pub ProvesOrOverflows : Verdict → Type 0
ProvesOrOverflows Proves = Unit {0}
ProvesOrOverflows (Overflow j) = Unit {0}
ProvesOrOverflows verdict = ⊥
