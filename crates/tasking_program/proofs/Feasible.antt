-- The counts of a schedule are a feasible point.
use Rattle.std.proofs.Common.{◌≡◌, ℕ, zero, suc, ◌+◌, ◌*◌, ◌/◌, ◌<◌, ◌≤◌, Bool, true, false, not, ◌&&◌, cond, nat_eq, List, [], ◌∷◌, length, get_or, All, count_by, Option, None, IsSome, slice_index_or, ℤ, pos, ◌+ℤ◌, ◌-ℤ◌, ◌*ℤ◌, ◌≤ℤ◌, refl, ap, ◌∙◌, arith}
use Rattle.std.proofs.Math.IntN.{*ℤ-zero, zero-*ℤ}
use Rattle.std.proofs.lemmas.Int.{ints}
use Rattle.std.proofs.lemmas.Bool.{eqb-true, le-leb}
use Rattle.std.proofs.lemmas.List.{length-map}
use Rattle.std.proofs.lemmas.List.Sums.{sum_by-cons}
use Rattle.std.proofs.lemmas.List.Elements.{All-append}
use Rattle.linear_program.specs.Programmes.{RowView, row_value}
use Rattle.linear_program.specs.Duality.{IsFeasible}
use Rattle.linear_program.proofs.Integers.{times_keeps_order}
use Rattle.platform_file.specs.Platform.{is_master}
use Rattle.platform_file.specs.Ticks.{TimedView, IsTimed}
use Rattle.schedule_model.specs.declared.schedule.Op.{Op}
use Rattle.schedule_model.specs.declared.schedule.Op.TheVariants.{Send, Compute}
use Rattle.schedule_model.specs.declared.schedule.Series.TheVariants.{Tasking}
use Rattle.schedule_model.specs.declared.schedule.Schedule.{Schedule}
use Rattle.schedule_model.specs.Operations.{start_of, duration_of, time_of, cost_of, sender_of, receiver_of, sends_from, sends_to, computes_at, has_started, has_ended}
use Rattle.schedule_model.specs.Validity.{IsInRange, IsValid}
use Rattle.schedule_model.specs.Throughput.{send_ticks, receive_ticks, compute_ticks}
use Rattle.schedule_model.proofs.Ports.{sends_fit, receives_fit, computes_fit}
use Rattle.schedule_model.proofs.PortUse.{count_alike}
use Rattle.schedule_model.proofs.Stocks.{count_fewer}
use Rattle.programme_rows.specs.Cells.{where_true}
use Rattle.programme_rows.proofs.Listings.{sum_over, each_all}
use Rattle.programme_rows.proofs.Weights.{row_by_columns, sums_bounded, one_use, no_use}
use Rattle.tasking_program.specs.declared.columns.Column.TheVariants.{Computes}
use Rattle.tasking_program.specs.declared.rows.Limit.{Limit}
use Rattle.tasking_program.specs.declared.rows.Limit.TheVariants.{Compute as Processor, Send as SendPort, Receive as ReceivePort, Supply}
use Rattle.tasking_program.specs.Columns.{computes, carries, columns_of}
use Rattle.tasking_program.specs.Rows.{cell_of, side_of, is_limited, row_of, rows_of}
use Rattle.tasking_program.specs.Programme.{tasking_programme}
use Rattle.tasking_program.specs.Counts.{operations_in, counts_of}
use Rattle.tasking_program.proofs.Weights.{IsThere, weight, counts_weigh}

-- a look-up that finds something is inside
pub inside : {A : Type 0} (xs : List (Option A)) (k : ℕ) → IsSome (slice_index_or xs k None) → k < length xs
inside [] k some = let bad : false ≡ true = some in cc
inside (x ∷ xs) zero some = omega arith
inside (x ∷ xs) (suc k) some = let there = inside xs k some in omega (arith, there)

module _ (t : TimedView) (s : Schedule) (timed : IsTimed t) (valid : IsValid t Tasking s) where
  abbrev k : ℕ
  k = s.ticks_per_unit / t.unit

  pub there : All (IsThere t) s.ops
  there i d l = each _ (valid.well_formed.in_range i d l)
    where
      nodes : length t.times ≡ length t.platform.nodes
      nodes = ap length timed.times ∙ length-map t.platform.nodes _

      each : (op : Op) → IsInRange t Tasking op → IsThere t op
      each (Send link kind start) range = range.0
      each (Compute node start) range = let found = inside t.times node range in omega (arith, found, nodes)

  -- a row's value, by operations
  value_of_row : (limit : Limit) (node : ℕ) → row_value (length (columns_of t)) (row_of t limit node) (counts_of t s) ≡ pos k *ℤ sum_over (weight t (cell_of t limit node)) s.ops
  value_of_row limit node =
      row_by_columns (cell_of t limit node) (λ c. operations_in s c * k) (Computes 0) (columns_of t) (side_of limit) ∙ counts_weigh t (cell_of t limit node) s there

  abbrev IsKept : Limit → ℕ → Type 0
  IsKept limit node = row_value (length (columns_of t)) (row_of t limit node) (counts_of t s) ≤ℤ (side_of limit *ℤ pos s.length)

  within : (a b c : ℤ) (n m : ℕ) → a ≡ b → b ≤ℤ pos n → n ≤ m → c ≡ pos m → a ≤ℤ c
  within a b c n m e h l f = omega (arith, ints)

  one_times : (n : ℕ) → pos 1 *ℤ pos n ≡ pos n
  one_times n = omega (arith, ints)

  processors_kept : (node : ℕ) → IsKept Processor node
  processors_kept node =
      within _ _ _ (compute_ticks t s node) s.length (value_of_row Processor node)
      (sums_bounded k (weight t (cell_of t Processor node)) (λ op. cond (computes_at node op) (duration_of t s.ticks_per_unit op) 0) s.ops each)
      (computes_fit t Tasking s node timed valid) (one_times s.length)
    where
      each : (op : Op) → (pos k *ℤ weight t (cell_of t Processor node) op) ≤ℤ pos (cond (computes_at node op) (duration_of t s.ticks_per_unit op) 0)
      each (Send link kind start) = no_use (carries t link) k
      each (Compute at start) = one_use (computes t at) (nat_eq at node) (time_of t at) k

  send_ports_kept : (node : ℕ) → IsKept SendPort node
  send_ports_kept node =
      within _ _ _ (send_ticks t s node) s.length (value_of_row SendPort node)
      (sums_bounded k (weight t (cell_of t SendPort node)) (λ op. cond (sends_from t node op) (duration_of t s.ticks_per_unit op) 0) s.ops each)
      (sends_fit t Tasking s node timed valid) (one_times s.length)
    where
      each : (op : Op) → (pos k *ℤ weight t (cell_of t SendPort node) op) ≤ℤ pos (cond (sends_from t node op) (duration_of t s.ticks_per_unit op) 0)
      each (Send link kind start) = one_use (carries t link) (nat_eq (sender_of t link) node) (cost_of t link) k
      each (Compute at start) = no_use (computes t at) k

  receive_ports_kept : (node : ℕ) → IsKept ReceivePort node
  receive_ports_kept node =
      within _ _ _ (receive_ticks t s node) s.length (value_of_row ReceivePort node)
      (sums_bounded k (weight t (cell_of t ReceivePort node)) (λ op. cond (sends_to t node op) (duration_of t s.ticks_per_unit op) 0) s.ops each)
      (receives_fit t Tasking s node timed valid) (one_times s.length)
    where
      each : (op : Op) → (pos k *ℤ weight t (cell_of t ReceivePort node) op) ≤ℤ pos (cond (sends_to t node op) (duration_of t s.ticks_per_unit op) 0)
      each (Send link kind start) = one_use (carries t link) (nat_eq (receiver_of t link) node) (cost_of t link) k
      each (Compute at start) = no_use (computes t at) k

  -- what all operations weigh in a node's supply: what it begins less what it gets
  supply_weighs : (node : ℕ) → is_master t.platform node ≡ false → (ops : List Op) →
      (sum_over (weight t (cell_of t Supply node)) ops +ℤ pos (count_by (sends_to t node) ops)) ≤ℤ pos (count_by (sends_from t node) ops + count_by (computes_at node) ops)
  supply_weighs node away [] = omega (arith, ints)
  supply_weighs node away (op ∷ ops) =
      let rest = supply_weighs node away ops in
      let here = one op in
      omega (
        arith,
        ints,
        rest,
        here,
        sum_by-cons (λ o. cond (sends_to t node o) 1 0) op ops,
        sum_by-cons (λ o. cond (sends_from t node o) 1 0) op ops,
        sum_by-cons (λ o. cond (computes_at node o) 1 0) op ops,
      )
    where
      computed : (a b : Bool) → (where_true a (where_true b (pos 1)) +ℤ pos 0) ≤ℤ pos (0 + cond b 1 0)
      computed true true = omega (arith, ints)
      computed true false = omega (arith, ints)
      computed false true = omega (arith, ints)
      computed false false = omega (arith, ints)

      sent : (enters from to : Bool) → (enters ≡ true → to ≡ false) → (where_true (not enters) (where_true from (pos 1) -ℤ where_true to (pos 1)) +ℤ pos (cond to 1 0)) ≤ℤ pos (cond from 1 0 + 0)
      sent false true true h = omega (arith, ints)
      sent false true false h = omega (arith, ints)
      sent false false true h = omega (arith, ints)
      sent false false false h = omega (arith, ints)
      sent true true to h = rw (h refl) (omega (arith, ints))
      sent true false to h = rw (h refl) (omega (arith, ints))

      not_here : (link : ℕ) → is_master t.platform (receiver_of t link) ≡ true → (b : Bool) → nat_eq (receiver_of t link) node ≡ b → b ≡ false
      not_here link enters false e = refl
      not_here link enters true e = absurd (clash (is_master t.platform node) (rw (eqb-true (receiver_of t link) node e) at enters) away)
        where
          clash : (b : Bool) → b ≡ true → b ≡ false → ⊥
          clash true e f = absurd cc
          clash false e f = absurd cc

      one : (op : Op) → (weight t (cell_of t Supply node) op +ℤ pos (cond (sends_to t node op) 1 0)) ≤ℤ pos (cond (sends_from t node op) 1 0 + cond (computes_at node op) 1 0)
      one (Send link kind start) = sent (is_master t.platform (receiver_of t link)) (nat_eq (sender_of t link) node) (nat_eq (receiver_of t link) node) (λ e. not_here link e _ refl)
      one (Compute at start) = computed (computes t at) (nat_eq at node)

  -- at the end all operations have begun, so that a node has begun no more than it has got
  begun_at_end : (node : ℕ) → is_master t.platform node ≡ false → count_by (sends_from t node) s.ops + count_by (computes_at node) s.ops ≤ count_by (sends_to t node) s.ops
  begun_at_end node away =
      few _ _ _ _ _ _ (count_alike (λ op. sends_from t node op && has_started s.length op) (sends_from t node) s.ops (λ i d l. at_end (sends_from t node _) _ (begun i d l)))
      (count_alike (λ op. computes_at node op && has_started s.length op) (computes_at node) s.ops (λ i d l. at_end (computes_at node _) _ (begun i d l)))
      (count_fewer (λ op. sends_to t node op && has_ended t s.ticks_per_unit s.length op) (sends_to t node) s.ops (λ op. front (sends_to t node op) _))
      (valid.supplied node s.length away)
    where
      begun : (i : ℕ) (d : Op) → i < length s.ops → has_started s.length (get_or s.ops i d) ≡ true
      begun i d l = let ends = valid.well_formed.in_time i d l in le-leb (start_of (get_or s.ops i d)) s.length (omega (arith, ends))

      at_end : (a b : Bool) → b ≡ true → (a && b) ≡ a
      at_end true b e = e
      at_end false b e = refl

      front : (a b : Bool) → (a && b) ≡ true → a ≡ true
      front true b e = refl
      front false b e = e

      few : (a b c x y z : ℕ) → a ≡ x → b ≡ y → c ≤ z → a + b ≤ c → x + y ≤ z
      few a b c x y z e f h l = omega arith

  supplies_kept : (node : ℕ) → is_master t.platform node ≡ false → IsKept Supply node
  supplies_kept node away =
      let total = sum_over (weight t (cell_of t Supply node)) s.ops in
      let less : total ≤ℤ pos 0 = none total _ _ (supply_weighs node away s.ops) (begun_at_end node away) in
      rw (value_of_row Supply node) (scaled total (times_keeps_order (pos k) total (pos 0) (omega (arith, ints)) less))
    where
      none : (z : ℤ) (begun got : ℕ) → (z +ℤ pos got) ≤ℤ pos begun → begun ≤ got → z ≤ℤ pos 0
      none z begun got h l = omega (arith, ints)

      scaled : (z : ℤ) → (pos k *ℤ z) ≤ℤ (pos k *ℤ pos 0) → (pos k *ℤ z) ≤ℤ (pos 0 *ℤ pos s.length)
      scaled z h = omega (arith, ints, h, *ℤ-zero (pos k), zero-*ℤ (pos s.length))

  pub feasible : IsFeasible (tasking_programme t) (counts_of t s) s.length
  feasible =
      let Kept : RowView → Type 0 = λ row. row_value (length (columns_of t)) row (counts_of t s) ≤ℤ (row.rhs *ℤ pos s.length) in
      let n = length t.platform.nodes in
      All-append Kept (rows_of t Processor) _ (each_all Kept (is_limited t Processor) (row_of t Processor) n (λ i l e. processors_kept i))
      (All-append Kept (rows_of t SendPort) _ (each_all Kept (is_limited t SendPort) (row_of t SendPort) n (λ i l e. send_ports_kept i))
      (All-append Kept (rows_of t ReceivePort) (rows_of t Supply) (each_all Kept (is_limited t ReceivePort) (row_of t ReceivePort) n (λ i l e. receive_ports_kept i))
      (each_all Kept (is_limited t Supply) (row_of t Supply) n (λ i l e. supplies_kept i (denied _ e)))))
    where
      denied : (b : Bool) → not b ≡ true → b ≡ false
      denied true e = absurd cc
      denied false e = refl
