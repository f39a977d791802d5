-- No feasible point gains more than dual-feasible prices say.
use Rattle.std.proofs.Common.{◌≡◌, ℕ, zero, suc, ℤ, pos, ◌+ℤ◌, ◌*ℤ◌, ◌≤ℤ◌, ◌<◌, List, [], ◌∷◌, All, arith, refl, sym, ◌∙◌, ap}
use Rattle.std.proofs.Math.IntN.{zero-*ℤ, *ℤ_comm}
use Rattle.std.proofs.lemmas.Int.{ints}
use Rattle.std.proofs.lemmas.List.Elements.{All-head, All-tail}
use Rattle.linear_program.proofs.Integers.{sum_times, times_product, times_keeps_order}
use Rattle.linear_program.specs.Sums.{sum_below}
use Rattle.linear_program.proofs.Sums.{sum_scaled, sum_added, sum_at_most, same_sum}
use Rattle.linear_program.specs.Programmes.{RowView, LpView, cell_at, gain_at, row_value, gain_value}
use Rattle.linear_program.specs.Duality.{priced_column, priced_sides, WeakDuality}

sum_none : (n : ℕ) (x : ℕ → ℕ) → sum_below n (λ j. pos 0 *ℤ pos (x j)) ≡ pos 0
sum_none zero x = refl
sum_none (suc n) x = omega (arith, ints, sum_none n x, zero-*ℤ (pos (x n)))

-- the priced columns at the point are at most the priced right sides
columns_at_most_sides : (n : ℕ) (x : ℕ → ℕ) (d : ℕ) (rows : List RowView) (ys : List ℤ) → All (λ y. pos 0 ≤ℤ y) ys →
    All (λ row. row_value n row x ≤ℤ (row.rhs *ℤ pos d)) rows →
    sum_below n (λ j. priced_column rows ys j *ℤ pos (x j)) ≤ℤ (priced_sides rows ys *ℤ pos d)
columns_at_most_sides n x d [] ys signs h = omega (arith, ints, sum_none n x, zero-*ℤ (pos d))
columns_at_most_sides n x d (row ∷ rows) [] signs h = omega (arith, ints, sum_none n x, zero-*ℤ (pos d))
columns_at_most_sides n x d (row ∷ rows) (y ∷ ys) signs h =
    let here = All-head (λ r. row_value n r x ≤ℤ (r.rhs *ℤ pos d)) row rows h in
    let rest = columns_at_most_sides n x d rows ys (All-tail (λ y. pos 0 ≤ℤ y) y ys signs) (All-tail (λ r. row_value n r x ≤ℤ (r.rhs *ℤ pos d)) row rows h) in
    let split : sum_below n (λ j. (y *ℤ cell_at row.cells j +ℤ priced_column rows ys j) *ℤ pos (x j)) ≡
    y *ℤ row_value n row x +ℤ sum_below n (λ j. priced_column rows ys j *ℤ pos (x j)) =
    same_sum n _ (λ j. y *ℤ (cell_at row.cells j *ℤ pos (x j)) +ℤ priced_column rows ys j *ℤ pos (x j))
    (λ j _. sum_times (y *ℤ cell_at row.cells j) (priced_column rows ys j) (pos (x j)) ∙
    ap (λ t. t +ℤ priced_column rows ys j *ℤ pos (x j)) (times_product (y) (cell_at row.cells j) (pos (x j))))
    ∙ sym (sum_added n (λ j. y *ℤ (cell_at row.cells j *ℤ pos (x j))) (λ j. priced_column rows ys j *ℤ pos (x j)))
    ∙ ap (λ t. t +ℤ sum_below n (λ j. priced_column rows ys j *ℤ pos (x j))) (sym (sum_scaled n (y) (λ j. cell_at row.cells j *ℤ pos (x j)))) in
    let priced : (y *ℤ row_value n row x) ≤ℤ (y *ℤ (row.rhs *ℤ pos d)) = times_keeps_order y _ _ (All-head (λ y. pos 0 ≤ℤ y) y ys signs) here in
    let side : (y *ℤ row.rhs +ℤ priced_sides rows ys) *ℤ pos d ≡ y *ℤ (row.rhs *ℤ pos d) +ℤ priced_sides rows ys *ℤ pos d =
    sum_times (y *ℤ row.rhs) (priced_sides rows ys) (pos d) ∙ ap (λ t. t +ℤ priced_sides rows ys *ℤ pos d) (times_product (y) row.rhs (pos d)) in
    rw (split, side) (omega (arith, ints, priced, rest))

-- a term by term comparison, scaled
gain_at_most_columns : (p : LpView) (x : ℕ → ℕ) (ys : List ℤ) (scale : ℤ) → ((j : ℕ) → j < p.columns → (scale *ℤ gain_at p j) ≤ℤ priced_column p.rows ys j) →
    (scale *ℤ gain_value p x) ≤ℤ sum_below p.columns (λ j. priced_column p.rows ys j *ℤ pos (x j))
gain_at_most_columns p x ys scale h =
    rw (sum_scaled p.columns (scale) (λ j. gain_at p j *ℤ pos (x j)))
    (sum_at_most p.columns _ _ (λ j l.
    rw (
      ← times_product (scale) (gain_at p j) (pos (x j)),
      *ℤ_comm (scale *ℤ gain_at p j) (pos (x j)),
      *ℤ_comm (priced_column p.rows ys j) (pos (x j)),
    )
    (times_keeps_order (pos (x j)) _ _ (omega (arith, ints)) (h j l))))

pub weak_duality : (p : LpView) → WeakDuality p
weak_duality p x d ys scale feasible dual =
    let first = gain_at_most_columns p x ys scale dual.covers in
    let second = columns_at_most_sides p.columns x d p.rows ys dual.not_negative feasible in
    omega (arith, ints, first, second)
