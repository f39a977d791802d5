-- What the counts of a schedule weigh in a row, operation by operation.
use Rattle.std.proofs.Common.{◌≡◌, ◌*◌, ◌/◌, ◌<◌, cond, List, [], ◌∷◌, length, All, count_by, ℤ, pos, ◌+ℤ◌, ◌*ℤ◌, refl, ap, ◌∙◌, arith}
use Rattle.std.proofs.lemmas.Int.{ints}
use Rattle.linear_program.specs.Sums.{sum_below}
use Rattle.linear_program.proofs.Sums.{same_sum}
use Rattle.platform_file.specs.Ticks.{TimedView}
use Rattle.schedule_model.specs.declared.schedule.Op.{Op}
use Rattle.schedule_model.specs.declared.schedule.Op.TheVariants.{Send, Compute}
use Rattle.schedule_model.specs.declared.schedule.Schedule.{Schedule}
use Rattle.schedule_model.specs.Operations.{computes_at}
use Rattle.programme_rows.specs.Listings.{each_where}
use Rattle.programme_rows.specs.Cells.{where_true}
use Rattle.programme_rows.proofs.Listings.{sum_over, sum_over_append, sum_over_each}
use Rattle.programme_rows.proofs.Weights.{counted, picked, none_picked, where_times, counts_scaled}
use Rattle.tasking_program.specs.declared.columns.Column.{Column}
use Rattle.tasking_program.specs.declared.columns.Column.TheVariants.{Computes, Flows}
use Rattle.tasking_program.specs.Columns.{computes, carries, columns_of}
use Rattle.tasking_program.specs.Counts.{moves_over, operations_in}

module _ (t : TimedView) where
  -- the node or the link exists
  abbrev pub IsThere : Op → Type 0
  IsThere (Send link kind start) = link < length t.platform.links
  IsThere (Compute node start) = node < length t.platform.nodes

  -- what one operation adds to a row
  abbrev pub weight : (Column → ℤ) → Op → ℤ
  weight f (Send link kind start) = where_true (carries t link) (f (Flows link))
  weight f (Compute node start) = where_true (computes t node) (f (Computes node))

  abbrev of_nodes : (Column → ℤ) → Op → ℤ
  of_nodes f (Send link kind start) = pos 0
  of_nodes f (Compute node start) = where_true (computes t node) (f (Computes node))

  abbrev of_links : (Column → ℤ) → Op → ℤ
  of_links f (Send link kind start) = where_true (carries t link) (f (Flows link))
  of_links f (Compute node start) = pos 0

  nodes_picked : (f : Column → ℤ) (ops : List Op) → All IsThere ops →
      sum_below (length t.platform.nodes) (λ i. where_true (computes t i) (f (Computes i)) *ℤ pos (count_by (computes_at i) ops)) ≡ sum_over (of_nodes f) ops
  nodes_picked f ops there =
      counted (length t.platform.nodes) (λ i. where_true (computes t i) (f (Computes i))) computes_at (of_nodes f) ops (λ k d l. one _ (there k d l))
    where
      one : (op : Op) → IsThere op → sum_below (length t.platform.nodes) (λ i. where_true (computes t i) (f (Computes i)) *ℤ pos (cond (computes_at i op) 1 0)) ≡ of_nodes f op
      one (Send link kind start) exists = none_picked (length t.platform.nodes) (λ i. where_true (computes t i) (f (Computes i)))
      one (Compute node start) exists = picked (length t.platform.nodes) node (λ i. where_true (computes t i) (f (Computes i))) exists

  links_picked : (f : Column → ℤ) (ops : List Op) → All IsThere ops →
      sum_below (length t.platform.links) (λ i. where_true (carries t i) (f (Flows i)) *ℤ pos (count_by (moves_over i) ops)) ≡ sum_over (of_links f) ops
  links_picked f ops there =
      counted (length t.platform.links) (λ i. where_true (carries t i) (f (Flows i))) moves_over (of_links f) ops (λ k d l. one _ (there k d l))
    where
      one : (op : Op) → IsThere op → sum_below (length t.platform.links) (λ i. where_true (carries t i) (f (Flows i)) *ℤ pos (cond (moves_over i op) 1 0)) ≡ of_links f op
      one (Send link kind start) exists = picked (length t.platform.links) link (λ i. where_true (carries t i) (f (Flows i))) exists
      one (Compute node start) exists = none_picked (length t.platform.links) (λ i. where_true (carries t i) (f (Flows i)))

  both_weigh : (f : Column → ℤ) (ops : List Op) → sum_over (of_nodes f) ops +ℤ sum_over (of_links f) ops ≡ sum_over (weight f) ops
  both_weigh f [] = refl
  both_weigh f (Send link kind start ∷ ops) = omega (arith, ints, both_weigh f ops)
  both_weigh f (Compute node start ∷ ops) = omega (arith, ints, both_weigh f ops)

  -- the sum over the columns of numbers times counts of operations
  pub columns_weigh : (f : Column → ℤ) (s : Schedule) → All IsThere s.ops →
      sum_over (λ c. f c *ℤ pos (operations_in s c)) (columns_of t) ≡ sum_over (weight f) s.ops
  columns_weigh f s there =
      let counted_at : Column → ℤ = λ c. f c *ℤ pos (operations_in s c) in
      let nodes = length t.platform.nodes in
      let links = length t.platform.links in
      sum_over_append counted_at (each_where (computes t) Computes nodes) (each_where (carries t) Flows links)
      ∙ both
      (sum_over_each counted_at (computes t) Computes nodes
      ∙ same_sum nodes _ (λ i. where_true (computes t i) (f (Computes i)) *ℤ pos (count_by (computes_at i) s.ops)) (λ i l. where_times (computes t i) (f (Computes i)) (pos (count_by (computes_at i) s.ops)))
      ∙ nodes_picked f s.ops there)
      (sum_over_each counted_at (carries t) Flows links
      ∙ same_sum links _ (λ i. where_true (carries t i) (f (Flows i)) *ℤ pos (count_by (moves_over i) s.ops)) (λ i l. where_times (carries t i) (f (Flows i)) (pos (count_by (moves_over i) s.ops)))
      ∙ links_picked f s.ops there)
      ∙ both_weigh f s.ops
    where
      both : {a b c d : ℤ} → a ≡ b → c ≡ d → a +ℤ c ≡ b +ℤ d
      both e k = rw (e, k) refl

  -- what the counts of a schedule sum to, by columns and by operations
  pub counts_weigh : (f : Column → ℤ) (s : Schedule) → All IsThere s.ops →
      sum_over (λ c. f c *ℤ pos (operations_in s c * (s.ticks_per_unit / t.unit))) (columns_of t) ≡ pos (s.ticks_per_unit / t.unit) *ℤ sum_over (weight f) s.ops
  counts_weigh f s there =
      counts_scaled f (operations_in s) (s.ticks_per_unit / t.unit) (columns_of t) ∙ ap (λ z. pos (s.ticks_per_unit / t.unit) *ℤ z) (columns_weigh f s there)
