-- The answer of an ended tableau, and what makes an answer best.
use Rattle.std.specs.Prelude.{◌≡◌, ℕ, zero, suc, ◌+◌, ◌*◌, ◌<◌, ◌≤◌, ℤ, pos, ◌*ℤ◌, ◌≤ℤ◌, nat_abs, cond, nat_eq, Option, Some, None, List, [], ◌∷◌, ◌++◌, length, slice_index_or}
use Rattle.ratio_core.specs.Fraction.{Fraction, reduced, whole}
use Rattle.linear_program.specs.Programmes.{LpView, gain_value}
use Rattle.linear_program.specs.Duality.{priced_sides, IsFeasible, IsDualFeasible}
use Rattle.linear_program.specs.Tableaux.{TableauView, objective_column, side_column}
use Rattle.linear_program.specs.declared.certificate.Optimum.{Optimum}

-- the terms 0 to n - 1 of a sequence, as a list
abbrev pub first_terms : {A : Type 0} → (ℕ → A) → ℕ → List A
first_terms f zero = []
first_terms f (suc n) = first_terms f n ++ f n ∷ []

-- the row below m in which a column is basic
abbrev pub row_of : (ℕ → ℕ) → ℕ → ℕ → Option ℕ
row_of basic zero j = None
row_of basic (suc m) j = cond (nat_eq (basic m) j) (Some m) (row_of basic m j)

-- that row's right-hand side over its cell in the column, and 0 without a row
abbrev pub value_in : TableauView → ℕ → Option ℕ → Fraction
value_in t j (Some i) = reduced (nat_abs (t.cell i (side_column t))) (nat_abs (t.cell i j))
value_in t j None = whole 0

-- the value of a column
abbrev pub value_of : TableauView → ℕ → Fraction
value_of t j = value_in t j (row_of t.basic t.constraints j)

-- the scale of the prices
abbrev pub scale_of : TableauView → ℤ
scale_of t = t.cell t.constraints (objective_column t)

-- the greatest gain times the scale
abbrev pub best_of : TableauView → ℤ
best_of t = t.cell t.constraints (side_column t)

-- the price of a row times the scale
abbrev pub price_of : TableauView → ℕ → ℤ
price_of t k = t.cell t.constraints (t.values + k)

-- the values and the certificate of a tableau
abbrev pub optimum_of : TableauView → Optimum
optimum_of t = record {
  values = first_terms (value_of t) t.values;
  certificate = record { scale = scale_of t; best = best_of t; prices = first_terms (price_of t) t.constraints };
}

-- no column would gain
abbrev pub HasEnded : TableauView → Type 0
HasEnded t = (j : ℕ) → j < objective_column t → pos 0 ≤ℤ t.cell t.constraints j

-- the values are a feasible point, one for each column, the certificate's prices are dual-feasible, and both give the same gain
pub record IsOptimal (p : LpView) (o : Optimum) : Type 0 where
  pub point : ℕ → ℕ
  pub den : ℕ
  pub some_den : 1 ≤ den
  pub one_each : length o.values ≡ p.columns
  pub values : (j : ℕ) → j < p.columns → point j * (slice_index_or o.values j (whole 0)).den ≡ (slice_index_or o.values j (whole 0)).num * den
  pub feasible : IsFeasible p point den
  pub dual_feasible : IsDualFeasible p o.certificate.prices o.certificate.scale
  pub priced : priced_sides p.rows o.certificate.prices ≡ o.certificate.best
  pub gains : o.certificate.scale *ℤ gain_value p point ≡ o.certificate.best *ℤ pos den
