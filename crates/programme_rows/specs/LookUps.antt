-- The values of a programme's columns, by what the columns stand for.
use Rattle.std.specs.Prelude.{Bool, cond, List, [], ◌∷◌}
use Rattle.ratio_core.specs.Fraction.{Fraction, whole}

-- the value of the first column that the test tells, and 0 where there is none
abbrev pub value_of : {A : Type 0} → (A → Bool) → List A → List Fraction → Fraction
value_of is [] values = whole 0
value_of is (column ∷ columns) [] = whole 0
value_of is (column ∷ columns) (value ∷ values) = cond (is column) value (value_of is columns values)
