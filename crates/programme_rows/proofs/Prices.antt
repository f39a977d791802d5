-- What columns cost where the first rows have a price of one and the rest are for nothing.
use Rattle.std.proofs.Common.{◌≡◌, ℕ, List, [], ◌∷◌, ◌++◌, map, All, ℤ, pos, ◌≤ℤ◌, refl, arith}
use Rattle.std.proofs.Math.IntN.{zero-*ℤ}
use Rattle.std.proofs.lemmas.Int.{ints}
use Rattle.std.proofs.lemmas.List.Elements.{All-cons, All-nil}
use Rattle.linear_program.specs.Programmes.{RowView, cell_at}
use Rattle.linear_program.specs.Duality.{priced_column}
use Rattle.programme_rows.proofs.Listings.{sum_over}

-- each row for nothing
abbrev pub nothing : List RowView → List ℤ
nothing rows = map (λ _. pos 0) rows

-- each row at a price of one
abbrev pub ones : List RowView → List ℤ
ones rows = map (λ _. pos 1) rows

-- what is for nothing costs nothing
pub priced_nothing : (rows : List RowView) (j : ℕ) → priced_column rows (nothing rows) j ≡ pos 0
priced_nothing [] j = refl
priced_nothing (row ∷ rows) j = omega (arith, ints, priced_nothing rows j, zero-*ℤ (cell_at row.cells j))

-- the first rows at a price of one and the rest for nothing
pub priced_front : (front rest : List RowView) (j : ℕ) → priced_column (front ++ rest) (ones front ++ nothing rest) j ≡ sum_over (λ row. cell_at row.cells j) front
priced_front [] rest j = priced_nothing rest j
priced_front (row ∷ front) rest j = omega (arith, ints, priced_front front rest j)

-- one price is in no row below nothing
pub constant : (z : ℤ) → pos 0 ≤ℤ z → (rows : List RowView) → All (λ price. pos 0 ≤ℤ price) (map (λ _. z) rows)
constant z h [] = All-nil (λ price. pos 0 ≤ℤ price)
constant z h (row ∷ rows) = All-cons (λ price. pos 0 ≤ℤ price) z _ h (constant z h rows)
