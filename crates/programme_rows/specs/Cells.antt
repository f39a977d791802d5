-- The cells of a row: by how much a unit of each column counts in it.
use Rattle.std.specs.Prelude.{◌≢◌, ◌<◌, ◌^◌, ℕ, Bool, not, ℤ, pos, nat_abs, nat_eq, cond, List, map, All}
use Rattle.std.specs.List.Sorted.{IsStrictlyIncreasing}
use Rattle.programme_rows.specs.Listings.{each_where}

-- a number where the test holds, and 0 elsewhere
abbrev pub where_true : Bool → ℤ → ℤ
where_true test z = cond test z (pos 0)

-- what a function of the columns below n makes that isn't 0, by ascending columns
abbrev pub cells_of : (ℕ → ℤ) → ℕ → List (ℕ × ℤ)
cells_of cell n = each_where (λ j. not (nat_eq (nat_abs (cell j)) 0)) (λ j. (j, cell j)) n

-- cells by ascending columns below a number, none of them 0, in 127 bits
pub record AreCells (columns : ℕ) (cells : List (ℕ × ℤ)) : Type 0 where
  pub exist : All (λ c. c.0 < columns) cells
  pub ascend : IsStrictlyIncreasing (map (λ c. c.0) cells)
  pub no_zero : All (λ c. c.1 ≢ pos 0) cells
  pub small : All (λ c. nat_abs c.1 < 2 ^ 127) cells
