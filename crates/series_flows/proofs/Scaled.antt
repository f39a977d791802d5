-- A feasible point in other whole numbers.
use Rattle.std.proofs.Common.{◌≡◌, ℕ, ◌*◌, ◌<◌, ◌≤◌, ℤ, pos, ◌*ℤ◌, ◌≤ℤ◌, sym, ap, ◌∙◌, arith}
use Rattle.std.proofs.Math.IntN.{*ℤ_comm}
use Rattle.std.proofs.lemmas.Int.{ints}
use Rattle.std.proofs.lemmas.List.Elements.{All-weaker}
use Rattle.linear_program.specs.Programmes.{RowView, LpView, cell_at, gain_at, row_value, gain_value}
use Rattle.linear_program.specs.Duality.{IsFeasible}
use Rattle.linear_program.proofs.Integers.{times_product, times_keeps_order, cancel_at_most}
use Rattle.linear_program.proofs.Sums.{same_sum, sum_scaled}

module _ (x y : ℕ → ℕ) (d e : ℕ) (some : 1 ≤ d) where
  -- both sides of a cell
  cells : (c : ℤ) (a b : ℕ) → b * d ≡ a * e → pos d *ℤ (c *ℤ pos b) ≡ pos e *ℤ (c *ℤ pos a)
  cells c a b h = turned d c b ∙ ap (λ n. c *ℤ pos n) h ∙ sym (turned e c a)
    where
      turned : (k : ℕ) (c : ℤ) (n : ℕ) → pos k *ℤ (c *ℤ pos n) ≡ c *ℤ pos (n * k)
      turned k c n = *ℤ_comm (pos k) (c *ℤ pos n) ∙ times_product c (pos n) (pos k) ∙ ap (λ z. c *ℤ z) (product n k)
        where
          product : (n k : ℕ) → pos n *ℤ pos k ≡ pos (n * k)
          product n k = omega (arith, ints)

  pub scaled_feasible : (p : LpView) → IsFeasible p x d → ((j : ℕ) → j < p.columns → y j * d ≡ x j * e) → IsFeasible p y e
  scaled_feasible p feasible same =
      All-weaker (λ row. row_value p.columns row x ≤ℤ (row.rhs *ℤ pos d)) (λ row. row_value p.columns row y ≤ℤ (row.rhs *ℤ pos e)) each p.rows feasible
    where
      each : (row : RowView) → row_value p.columns row x ≤ℤ (row.rhs *ℤ pos d) → row_value p.columns row y ≤ℤ (row.rhs *ℤ pos e)
      each row kept =
          let value : pos d *ℤ row_value p.columns row y ≡ pos e *ℤ row_value p.columns row x =
          sum_scaled p.columns (pos d) (λ j. cell_at row.cells j *ℤ pos (y j))
          ∙ same_sum p.columns _ (λ j. pos e *ℤ (cell_at row.cells j *ℤ pos (x j))) (λ j l. cells (cell_at row.cells j) (x j) (y j) (same j l))
          ∙ sym (sum_scaled p.columns (pos e) (λ j. cell_at row.cells j *ℤ pos (x j))) in
          let sides : pos e *ℤ (row.rhs *ℤ pos d) ≡ pos d *ℤ (row.rhs *ℤ pos e) = swapped row.rhs in
          cancel_at_most (pos d) (row_value p.columns row y) (row.rhs *ℤ pos e) (omega (arith, ints, some))
          (rw (value, sym sides) (times_keeps_order (pos e) (row_value p.columns row x) (row.rhs *ℤ pos d) (omega (arith, ints)) kept))
        where
          swapped : (r : ℤ) → pos e *ℤ (r *ℤ pos d) ≡ pos d *ℤ (r *ℤ pos e)
          swapped r = *ℤ_comm (pos e) (r *ℤ pos d) ∙ times_product r (pos d) (pos e) ∙ ap (λ z. r *ℤ z) (*ℤ_comm (pos d) (pos e)) ∙ sym (times_product r (pos e) (pos d)) ∙ *ℤ_comm (r *ℤ pos e) (pos d)

  -- it gains as much, in the other numbers
  pub scaled_gain : (p : LpView) → ((j : ℕ) → j < p.columns → y j * d ≡ x j * e) → pos d *ℤ gain_value p y ≡ pos e *ℤ gain_value p x
  scaled_gain p same =
      sum_scaled p.columns (pos d) (λ j. gain_at p j *ℤ pos (y j))
      ∙ same_sum p.columns _ (λ j. pos e *ℤ (gain_at p j *ℤ pos (x j))) (λ j l. cells (gain_at p j) (x j) (y j) (same j l))
      ∙ sym (sum_scaled p.columns (pos e) (λ j. gain_at p j *ℤ pos (x j)))
