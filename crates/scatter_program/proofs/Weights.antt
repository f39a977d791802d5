-- What the counts of a schedule weigh in a row, operation by operation.
use Rattle.std.proofs.Common.{◌≡◌, ℕ, ◌/◌, ◌<◌, Bool, true, false, ◌&&◌, cond, nat_eq, List, length, All, count_by, ℤ, pos, ◌+ℤ◌, ◌*ℤ◌, refl, sym, ap, ◌∙◌}
use Rattle.std.proofs.lemmas.Bool.{eq-eqb, ne_eqb}
use Rattle.linear_program.specs.Sums.{sum_below}
use Rattle.linear_program.proofs.Sums.{same_sum, sum_scaled, zero_sum, single_sum}
use Rattle.platform_file.specs.Ticks.{TimedView}
use Rattle.schedule_model.specs.declared.schedule.Op.{Op}
use Rattle.schedule_model.specs.declared.schedule.Op.TheVariants.{Send, Compute}
use Rattle.schedule_model.specs.declared.schedule.Series.TheVariants.{Scatter}
use Rattle.schedule_model.specs.declared.schedule.Schedule.{Schedule}
use Rattle.schedule_model.specs.Validity.{IsInRange, completed}
use Rattle.programme_rows.specs.Cells.{where_true}
use Rattle.programme_rows.proofs.Listings.{sum_over, sum_by_index}
use Rattle.programme_rows.proofs.Exchanges.{sum_over_same, sum_exchange}
use Rattle.programme_rows.proofs.Weights.{counted, picked, none_picked, where_times, regrouped}
use Rattle.scatter_program.specs.declared.columns.Column.{Column}
use Rattle.scatter_program.specs.declared.columns.Column.TheVariants.{Rate, Flows}
use Rattle.scatter_program.specs.Columns.{carries, flows_below, columns_of, column_at}
use Rattle.scatter_program.specs.Counts.{moves_over, operations_in, counts_of}
use Rattle.scatter_program.proofs.Flows.{sum_over_flows}

module _ (t : TimedView) where
  -- what one operation adds to a row
  abbrev pub weight : (Column → ℤ) → Op → ℤ
  weight f (Send link kind start) = where_true (carries t kind link) (f (Flows link kind))
  weight f (Compute node start) = pos 0

  -- what it adds as a message of the kind
  abbrev own_weight : (Column → ℤ) → ℕ → Op → ℤ
  own_weight f kind (Send link own start) = where_true (nat_eq own kind) (where_true (carries t kind link) (f (Flows link kind)))
  own_weight f kind (Compute node start) = pos 0

  links_picked : (f : Column → ℤ) (kind : ℕ) (ops : List Op) → All (IsInRange t Scatter) ops →
      sum_below (length t.platform.links) (λ i. where_true (carries t kind i) (f (Flows i kind)) *ℤ pos (count_by (moves_over i kind) ops)) ≡ sum_over (own_weight f kind) ops
  links_picked f kind ops range =
      counted (length t.platform.links) (λ i. where_true (carries t kind i) (f (Flows i kind))) (λ i. moves_over i kind) (own_weight f kind) ops (λ k d l. one _ (range k d l))
    where
      of_kind : (b : Bool) (link : ℕ) → link < length t.platform.links →
          sum_below (length t.platform.links) (λ i. where_true (carries t kind i) (f (Flows i kind)) *ℤ pos (cond (b && nat_eq link i) 1 0)) ≡ where_true b (where_true (carries t kind link) (f (Flows link kind)))
      of_kind true link exists = picked (length t.platform.links) link (λ i. where_true (carries t kind i) (f (Flows i kind))) exists
      of_kind false link exists = none_picked (length t.platform.links) (λ i. where_true (carries t kind i) (f (Flows i kind)))

      one : (op : Op) → IsInRange t Scatter op → sum_below (length t.platform.links) (λ i. where_true (carries t kind i) (f (Flows i kind)) *ℤ pos (cond (moves_over i kind op) 1 0)) ≡ own_weight f kind op
      one (Send link own start) range = of_kind (nat_eq own kind) link range.0
      one (Compute node start) range = none_picked (length t.platform.links) (λ i. where_true (carries t kind i) (f (Flows i kind)))

  -- of all kinds, the one that the operation moves
  kinds_picked : (f : Column → ℤ) (ops : List Op) → All (IsInRange t Scatter) ops →
      sum_over (λ op. sum_below (length t.platform.targets) (λ kind. own_weight f kind op)) ops ≡ sum_over (weight f) ops
  kinds_picked f ops range =
      sum_over_same (λ op. sum_below (length t.platform.targets) (λ kind. own_weight f kind op)) (weight f) ops (λ k d l. one _ (range k d l))
    where
      one : (op : Op) → IsInRange t Scatter op → sum_below (length t.platform.targets) (λ kind. own_weight f kind op) ≡ weight f op
      one (Send link own start) range =
          let term : ℕ → ℤ = λ kind. where_true (nat_eq own kind) (where_true (carries t kind link) (f (Flows link kind))) in
          single_sum (length t.platform.targets) own term range.1 (λ kind l apart. ap (λ b. where_true b (where_true (carries t kind link) (f (Flows link kind)))) (ne_eqb own kind (λ e. apart (sym e))))
          ∙ ap (λ b. where_true b (where_true (carries t own link) (f (Flows link own)))) (eq-eqb own own refl)
      one (Compute node start) range = zero_sum (length t.platform.targets) (λ kind. pos 0) (λ i l. refl)

  -- the sum over the flows of numbers times counts of operations
  flows_weigh : (f : Column → ℤ) (s : Schedule) → All (IsInRange t Scatter) s.ops →
      sum_over (λ c. f c *ℤ pos (operations_in t s c)) (flows_below t (length t.platform.targets)) ≡ sum_over (weight f) s.ops
  flows_weigh f s range =
      sum_over_flows t (λ c. f c *ℤ pos (operations_in t s c)) (length t.platform.targets)
      ∙ same_sum (length t.platform.targets) _ (λ kind. sum_over (own_weight f kind) s.ops) (λ kind k.
      same_sum (length t.platform.links) _ (λ i. where_true (carries t kind i) (f (Flows i kind)) *ℤ pos (count_by (moves_over i kind) s.ops)) (λ i l. where_times (carries t kind i) (f (Flows i kind)) (pos (count_by (moves_over i kind) s.ops)))
      ∙ links_picked f kind s.ops range)
      ∙ sum_exchange (length t.platform.targets) (own_weight f) s.ops
      ∙ kinds_picked f s.ops range

  -- what the counts of a schedule sum to, by columns and by operations
  pub counts_weigh : (f : Column → ℤ) (s : Schedule) → All (IsInRange t Scatter) s.ops →
      sum_below (length (columns_of t)) (λ j. f (column_at (columns_of t) j) *ℤ pos (counts_of t s j))
      ≡ pos (s.ticks_per_unit / t.unit) *ℤ (f Rate *ℤ pos (completed t Scatter s) +ℤ sum_over (weight f) s.ops)
  counts_weigh f s range =
      let k = s.ticks_per_unit / t.unit in
      let columns = columns_of t in
      same_sum (length columns) _ (λ j. pos k *ℤ (f (column_at columns j) *ℤ pos (operations_in t s (column_at columns j)))) (λ j l. regrouped (f (column_at columns j)) (operations_in t s (column_at columns j)) k)
      ∙ sym (sum_scaled (length columns) (pos k) (λ j. f (column_at columns j) *ℤ pos (operations_in t s (column_at columns j))))
      ∙ ap (λ z. pos k *ℤ z)
      (sum_by_index (λ c. f c *ℤ pos (operations_in t s c)) Rate columns ∙ ap (λ z. f Rate *ℤ pos (completed t Scatter s) +ℤ z) (flows_weigh f s range))
