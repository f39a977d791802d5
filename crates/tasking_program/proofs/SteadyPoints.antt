-- A feasible point keeps every port and processor in time, and every supply.
use Rattle.std.proofs.Common.{◌≡◌, ℕ, ◌+◌, ◌*◌, ◌<◌, ◌≤◌, Bool, true, false, not, ◌&&◌, cond, nat_eq, length, All, ℤ, pos, ◌+ℤ◌, ◌-ℤ◌, ◌*ℤ◌, ◌≤ℤ◌, refl, ap, ◌∙◌, arith}
use Rattle.std.proofs.Math.IntN.{zero-*ℤ}
use Rattle.std.proofs.lemmas.Int.{ints}
use Rattle.std.proofs.lemmas.Bool.Decides.{nat_tests}
use Rattle.linear_program.specs.Sums.{sum_below}
use Rattle.linear_program.specs.Programmes.{RowView, row_value, gain_value}
use Rattle.linear_program.specs.Duality.{IsFeasible}
use Rattle.platform_file.specs.Platform.{is_master}
use Rattle.platform_file.specs.Ticks.{TimedView}
use Rattle.schedule_model.specs.Operations.{time_of, cost_of, sender_of, receiver_of}
use Rattle.programme_rows.specs.Listings.{each_where, total_below}
use Rattle.programme_rows.specs.Cells.{where_true}
use Rattle.programme_rows.proofs.Listings.{front, back, each_of, sum_over_append, sum_over_each}
use Rattle.programme_rows.proofs.Totals.{sum_pos, sum_difference, no_total, one_of_total}
use Rattle.programme_rows.proofs.Weights.{row_by_columns, gain_by_columns, one_rate, no_rate, one_flow}
use Rattle.tasking_program.specs.declared.columns.Column.{Column}
use Rattle.tasking_program.specs.declared.columns.Column.TheVariants.{Computes, Flows}
use Rattle.tasking_program.specs.declared.rows.Limit.{Limit}
use Rattle.tasking_program.specs.declared.rows.Limit.TheVariants.{Compute as Processor, Send as SendPort, Receive as ReceivePort, Supply}
use Rattle.tasking_program.specs.Columns.{computes, carries, columns_of}
use Rattle.tasking_program.specs.Rows.{cell_of, side_of, is_limited, row_of, rows_of}
use Rattle.tasking_program.specs.Programme.{gain_of, tasking_programme}
use Rattle.tasking_program.specs.Points.{amounts_of, over_links, IsSteady}

module _ (t : TimedView) (amount : Column → ℕ) (ticks : ℕ) where
  abbrev Kept : RowView → Type 0
  Kept row = row_value (length (columns_of t)) row (amounts_of t amount) ≤ℤ (row.rhs *ℤ pos ticks)

  -- a row's value, by columns
  value_of_row : (limit : Limit) (node : ℕ) → row_value (length (columns_of t)) (row_of t limit node) (amounts_of t amount)
      ≡ sum_below (length t.platform.nodes) (λ i. where_true (computes t i) (cell_of t limit node (Computes i) *ℤ pos (amount (Computes i))))
      +ℤ sum_below (length t.platform.links) (λ l. where_true (carries t l) (cell_of t limit node (Flows l) *ℤ pos (amount (Flows l))))
  value_of_row limit node =
      let each : Column → ℤ = λ column. cell_of t limit node column *ℤ pos (amount column) in
      row_by_columns (cell_of t limit node) amount (Computes 0) (columns_of t) (side_of limit)
      ∙ sum_over_append each (each_where (computes t) Computes (length t.platform.nodes)) (each_where (carries t) Flows (length t.platform.links))
      ∙ both (sum_over_each each (computes t) Computes (length t.platform.nodes)) (sum_over_each each (carries t) Flows (length t.platform.links))
    where
      both : {a b c d : ℤ} → a ≡ b → c ≡ d → a +ℤ c ≡ b +ℤ d
      both e k = rw (e, k) refl

  -- a rate gains its amount, and a flow nothing
  pub gain : gain_value (tasking_programme t) (amounts_of t amount) ≡ pos (total_below (length t.platform.nodes) (λ node. cond (computes t node) (amount (Computes node)) 0))
  gain =
      let each : Column → ℤ = λ column. gain_of column *ℤ pos (amount column) in
      gain_by_columns gain_of amount (Computes 0) (columns_of t) (tasking_programme t).rows
      ∙ sum_over_append each (each_where (computes t) Computes (length t.platform.nodes)) (each_where (carries t) Flows (length t.platform.links))
      ∙ both _ _ _ _ _ (sum_over_each each (computes t) Computes (length t.platform.nodes)) (sum_over_each each (carries t) Flows (length t.platform.links))
      (sum_pos (length t.platform.nodes) _ (λ i. cond (computes t i) (amount (Computes i)) 0) (λ i. one_gain (computes t i) (amount (Computes i))))
      (sum_pos (length t.platform.links) _ (λ i. 0) (λ i. no_rate (carries t i) (amount (Flows i)))) (no_total (length t.platform.links))
    where
      one_gain : (a : Bool) (n : ℕ) → where_true a (pos 1 *ℤ pos n) ≡ pos (cond a n 0)
      one_gain true n = omega (arith, ints)
      one_gain false n = refl

      both : (a b c d : ℤ) (n : ℕ) {m : ℕ} → a ≡ c → b ≡ d → c ≡ pos n → d ≡ pos m → m ≡ 0 → a +ℤ b ≡ pos n
      both a b c d n e f g h z = omega (arith, ints, e, f, g, h, z)

  module _ (feasible : IsFeasible (tasking_programme t) (amounts_of t amount) ticks) where
    rows : (limit : Limit) → All Kept (rows_of t limit)
    rows Processor = front Kept (rows_of t Processor) _ feasible
    rows SendPort = front Kept (rows_of t SendPort) _ (back Kept (rows_of t Processor) _ feasible)
    rows ReceivePort = front Kept (rows_of t ReceivePort) (rows_of t Supply) (back Kept (rows_of t SendPort) _ (back Kept (rows_of t Processor) _ feasible))
    rows Supply = back Kept (rows_of t ReceivePort) (rows_of t Supply) (back Kept (rows_of t SendPort) _ (back Kept (rows_of t Processor) _ feasible))

    kept : (limit : Limit) (node : ℕ) → node < length t.platform.nodes → is_limited t limit node ≡ true → Kept (row_of t limit node)
    kept limit node l e = each_of Kept (is_limited t limit) (row_of t limit) (length t.platform.nodes) (rows limit) node l e

    -- a row of one sum alone
    within : (a b c : ℤ) (n m : ℕ) → a ≡ b +ℤ c → b ≡ pos n → c ≡ pos m → a ≤ℤ (pos 1 *ℤ pos ticks) → n + m ≤ ticks
    within a b c n m e f g h = omega (arith, ints)

    pub processors : (node : ℕ) → node < length t.platform.nodes → computes t node ≡ true → time_of t node * amount (Computes node) ≤ ticks
    processors node l e =
        let all = within _ _ _ _ _ (value_of_row Processor node)
        (sum_pos (length t.platform.nodes) _ (λ i. cond (computes t i && nat_eq i node) (time_of t i * amount (Computes i)) 0) (λ i. one_rate (computes t i) (nat_eq i node) (time_of t i) (amount (Computes i))))
        (sum_pos (length t.platform.links) _ (λ i. 0) (λ i. no_rate (carries t i) (amount (Flows i)))) (kept Processor node l e) in
        let one = one_of_total (length t.platform.nodes) (λ i. cond (computes t i && nat_eq i node) (time_of t i * amount (Computes i)) 0) node l in
        let same : nat_eq node node ≡ true = grind (arith, nat_tests) in
        let is : cond (computes t node && nat_eq node node) (time_of t node * amount (Computes node)) 0 ≡ time_of t node * amount (Computes node) = rw (e, same) refl in
        omega (arith, all, one, is)

    pub senders : (node : ℕ) → node < length t.platform.nodes → over_links t (λ link. nat_eq (sender_of t link) node) (λ link. cost_of t link * amount (Flows link)) ≤ ticks
    senders node l =
        let all = within _ _ _ _ _ (value_of_row SendPort node) (sum_pos (length t.platform.nodes) _ (λ i. 0) (λ i. no_rate (computes t i) (amount (Computes i))))
        (sum_pos (length t.platform.links) _ (λ i. cond (carries t i && nat_eq (sender_of t i) node) (cost_of t i * amount (Flows i)) 0) (λ i. one_rate (carries t i) (nat_eq (sender_of t i) node) (cost_of t i) (amount (Flows i))))
        (kept SendPort node l refl) in
        omega (arith, all)

    pub receivers : (node : ℕ) → node < length t.platform.nodes → over_links t (λ link. nat_eq (receiver_of t link) node) (λ link. cost_of t link * amount (Flows link)) ≤ ticks
    receivers node l =
        let all = within _ _ _ _ _ (value_of_row ReceivePort node) (sum_pos (length t.platform.nodes) _ (λ i. 0) (λ i. no_rate (computes t i) (amount (Computes i))))
        (sum_pos (length t.platform.links) _ (λ i. cond (carries t i && nat_eq (receiver_of t i) node) (cost_of t i * amount (Flows i)) 0) (λ i. one_rate (carries t i) (nat_eq (receiver_of t i) node) (cost_of t i) (amount (Flows i))))
        (kept ReceivePort node l refl) in
        omega (arith, all)

    -- a row of a sum and a difference
    passed_on : (a b c : ℤ) (n m k : ℕ) → a ≡ b +ℤ c → b ≡ pos n → c ≡ pos m -ℤ pos k → a ≤ℤ (pos 0 *ℤ pos ticks) → n + m ≤ k
    passed_on a b c n m k e f g h = omega (arith, ints, zero-*ℤ (pos ticks))

    pub supplies : (node : ℕ) → node < length t.platform.nodes → is_master t.platform node ≡ false →
        cond (computes t node) (amount (Computes node)) 0 + over_links t (λ link. nat_eq (sender_of t link) node) (λ link. amount (Flows link))
        ≤ over_links t (λ link. nat_eq (receiver_of t link) node) (λ link. amount (Flows link))
    supplies node l away =
        let all = passed_on _ _ _ (total_below (length t.platform.nodes) (λ i. cond (computes t i && nat_eq i node) (1 * amount (Computes i)) 0))
        (over_links t (λ link. nat_eq (sender_of t link) node) (λ link. amount (Flows link))) (over_links t (λ link. nat_eq (receiver_of t link) node) (λ link. amount (Flows link))) (value_of_row Supply node)
        (sum_pos (length t.platform.nodes) _ (λ i. cond (computes t i && nat_eq i node) (1 * amount (Computes i)) 0) (λ i. one_rate (computes t i) (nat_eq i node) 1 (amount (Computes i))))
        (sum_difference (length t.platform.links) _ (λ i. cond (carries t i && nat_eq (sender_of t i) node) (amount (Flows i)) 0) (λ i. cond (carries t i && nat_eq (receiver_of t i) node) (amount (Flows i)) 0)
        (λ i. one_flow (carries t i) (nat_eq (sender_of t i) node) (nat_eq (receiver_of t i) node) (amount (Flows i))))
        (kept Supply node l (ap not away)) in
        let one = one_of_total (length t.platform.nodes) (λ i. cond (computes t i && nat_eq i node) (1 * amount (Computes i)) 0) node l in
        let same : nat_eq node node ≡ true = grind (arith, nat_tests) in
        let is : cond (computes t node && nat_eq node node) (1 * amount (Computes node)) 0 ≡ cond (computes t node) (amount (Computes node)) 0 = rw same (single (computes t node) (amount (Computes node))) in
        omega (arith, all, one, is)
      where
        single : (b : Bool) (n : ℕ) → cond (b && true) (1 * n) 0 ≡ cond b n 0
        single true n = omega arith
        single false n = refl

    pub steady : IsSteady t amount ticks
    steady = record { processors = processors; senders = senders; receivers = receivers; supplies = supplies }
