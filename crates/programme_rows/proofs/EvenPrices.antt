-- All rows at a price of one.
use Rattle.std.proofs.Common.{◌≡◌, ℕ, List, [], ◌∷◌, refl, arith}
use Rattle.std.proofs.lemmas.Int.{ints}
use Rattle.linear_program.specs.Programmes.{RowView, cell_at}
use Rattle.linear_program.specs.Duality.{priced_column}
use Rattle.programme_rows.proofs.Listings.{sum_over}
use Rattle.programme_rows.proofs.Prices.{ones}

-- a column costs what its cells sum to
pub priced_ones : (rows : List RowView) (j : ℕ) → priced_column rows (ones rows) j ≡ sum_over (λ row. cell_at row.cells j) rows
priced_ones [] j = refl
priced_ones (row ∷ rows) j = omega (arith, ints, priced_ones rows j)
