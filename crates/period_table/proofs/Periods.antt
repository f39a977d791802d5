-- Over all periods the operations of a port follow each other: so a table's schedule is one-port and in time.
use Rattle.std.proofs.Common.{◌≡◌, ℕ, zero, suc, ◌+◌, ◌*◌, ◌/◌, ◌≤◌, Bool, true, false, ◌&&◌, cond, nat_eq, List, [], ◌∷◌, map, filter, refl, sym, ◌∙◌, ap, subst, arith, All, count_by, sum_by}
use Rattle.std.proofs.lemmas.Bool.Decides.{nat_tests}
use Rattle.std.proofs.lemmas.List.Elements.{All-nil, All-weaker, All-map}
use Rattle.std.proofs.lemmas.List.Sums.{sum_by-cons}
use Rattle.std.proofs.lemmas.List.Sorted.{sum_by-IsPermutation, All-permutation}
use Rattle.std.proofs.Math.Nat.{mul-le-mul_right, div_self}
use Rattle.platform_file.specs.Ticks.{TimedView}
use Rattle.schedule_model.specs.declared.schedule.Op.{Op}
use Rattle.schedule_model.specs.declared.schedule.Op.TheVariants.{Send, Compute}
use Rattle.schedule_model.specs.declared.schedule.Series.{Series}
use Rattle.schedule_model.specs.declared.schedule.Series.TheVariants.{Tasking, Scatter}
use Rattle.schedule_model.specs.Operations.{start_of, duration_of, end_of, sender_of, receiver_of, sends_from, sends_to, computes_at, is_open, cost_of, time_of}
use Rattle.schedule_model.specs.Validity.{IsOnePort}
use Rattle.period_table.specs.declared.table.Table.{Table}
use Rattle.period_table.specs.declared.table.Slot.{Slot}
use Rattle.period_table.specs.Lanes.{lanes_of}
use Rattle.period_table.specs.TableSchedules.{Placed, sends_of_slots, has_arrived, period_ops, period_computes, ops_below, in_order, table_schedule}
use Rattle.period_table.specs.Tables.{IsMatching, HasTime, KeepsPorts}
use Rattle.period_table.proofs.Chains.{chain_append, chain_unused, chain_single, chain_within}
use Rattle.period_table.proofs.Runs.{slots_all, routes_all, sum_filter_le}
use Rattle.period_table.proofs.PortChains.{IsPortChain, FreesPort, slots_chain, routes_chain}
use Rattle.period_table.proofs.Sorting.{in_order_permutes, ops_of}

-- a count over a list put into order is one over the list
count_map : {X Y : Type 0} (f : Y → Bool) (g : X → Y) (xs : List X) → count_by f (map g xs) ≡ count_by (λ x. f (g x)) xs
count_map f g [] = refl
count_map f g (x ∷ xs) =
    sum_by-cons (λ y. cond (f y) 1 0) (g x) (map g xs) ∙ ap (λ n. cond (f (g x)) 1 0 + n) (count_map f g xs) ∙ sym (sum_by-cons (λ x. cond (f (g x)) 1 0) x xs)

pub count_in_order : (f : Op → Bool) (ps : List Placed) → count_by f (ops_of (in_order ps)) ≡ count_by (λ p. f p.op) ps
count_in_order f ps =
    count_map f (λ p. p.op) (in_order ps) ∙ sum_by-IsPermutation (λ p. cond (f p.op) 1 0) ps (in_order ps) (in_order_permutes ps)

pub all_in_order : (P : Op → Type 0) (ps : List Placed) → All (λ p. P p.op) ps → All P (ops_of (in_order ps))
all_in_order P ps h = All-map P (λ p. p.op) (in_order ps) (All-permutation (λ p. P p.op) ps (in_order ps) (in_order_permutes ps) h)

-- in ticks of the platform's own unit an operation lasts its cost or time
whole_unit : (n unit : ℕ) → 1 ≤ unit → n * (unit / unit) ≡ n
whole_unit n unit h = rw (div_self h) (omega arith)

module _ (t : TimedView) (some_unit : 1 ≤ t.unit) (series : Series) (table : Table)
    (period : table.period ≡ sum_by (λ slot. slot.duration) table.slots) (keeps : KeepsPorts t series table) where
  ops_chain : (uses : Op → Bool) → ((p : ℕ) → IsPortChain t uses (p * table.period) (suc p * table.period) (period_ops t series table p)) → (n : ℕ) →
      IsPortChain t uses 0 (n * table.period) (ops_below t series table n)
  ops_chain uses each zero = omega arith
  ops_chain uses each (suc n) =
      chain_append (λ p. uses p.op) (λ p. start_of p.op) (λ p. duration_of t t.unit p.op) 0 (n * table.period) (suc n * table.period)
      (ops_below t series table n) (period_ops t series table n) (ops_chain uses each n) (each n)

  next_period : (p : ℕ) → p * table.period + sum_by (λ slot. slot.duration) table.slots ≡ suc p * table.period
  next_period p = rw (← period) (omega arith)

  no_sends : (uses : Op → Bool) → ((at start : ℕ) → uses (Compute at start) ≡ false) → (p : ℕ) → All (λ q. uses q.op ≡ false) (period_computes t series table p)
  no_sends uses none p = of_series series
    where
      of_series : (series : Series) → All (λ q. uses q.op ≡ false) (period_computes t series table p)
      of_series Tasking = routes_all t [] (λ q. uses q.op ≡ false) _ [] (filter (has_arrived p) table.routes) (λ k d h s. none _ s)
      of_series Scatter = All-nil (λ q. uses q.op ≡ false)

  lasts_send : (link kind start : ℕ) → duration_of t t.unit (Send link kind start) ≡ cost_of t link
  lasts_send link kind start = whole_unit (cost_of t link) t.unit some_unit

  lasts_compute : (at start : ℕ) → duration_of t t.unit (Compute at start) ≡ time_of t at
  lasts_compute at start = whole_unit (time_of t at) t.unit some_unit

  -- a port of links: the send ports and the receive ports
  port_chain : (uses : Op → Bool) (port : ℕ → Bool) → ((link kind start : ℕ) → uses (Send link kind start) ≡ port link) →
      ((at start : ℕ) → uses (Compute at start) ≡ false) → All (FreesPort t (lanes_of table.routes) port) table.slots → (p : ℕ) →
      IsPortChain t uses (p * table.period) (suc p * table.period) (period_ops t series table p)
  port_chain uses port sends none frees p =
      chain_append (λ q. uses q.op) (λ q. start_of q.op) (λ q. duration_of t t.unit q.op) (p * table.period) (suc p * table.period) (suc p * table.period)
      (sends_of_slots t (lanes_of table.routes) p (p * table.period) table.slots) (period_computes t series table p)
      (subst (λ (last : ℕ). IsPortChain t uses (p * table.period) last (sends_of_slots t (lanes_of table.routes) p (p * table.period) table.slots)) (next_period p)
      (slots_chain t (lanes_of table.routes) uses port sends lasts_send p (p * table.period) table.slots frees))
      (chain_unused (λ q. uses q.op) (λ q. start_of q.op) (λ q. duration_of t t.unit q.op) (suc p * table.period) (suc p * table.period) (period_computes t series table p)
      (no_sends uses none p) (omega arith))

  same_end : (a b node : ℕ) → nat_eq a node ≡ true → nat_eq b node ≡ true → a ≡ b
  same_end a b node e f = grind (arith, nat_tests)

  pub send_period : (node p : ℕ) → IsPortChain t (sends_from t node) (p * table.period) (suc p * table.period) (period_ops t series table p)
  send_period node p =
      port_chain (sends_from t node) (λ link. nat_eq (sender_of t link) node) (λ link kind start. refl) (λ at start. refl)
      (All-weaker (IsMatching t (lanes_of table.routes)) (FreesPort t (lanes_of table.routes) (λ link. nat_eq (sender_of t link) node)) frees table.slots keeps.slots) p
    where
      frees : (slot : Slot) → IsMatching t (lanes_of table.routes) slot → FreesPort t (lanes_of table.routes) (λ link. nat_eq (sender_of t link) node) slot
      frees slot m = record {
        in_time = m.in_time;
        one_link = λ k d h l e i used both. m.senders k d h l e i (same_end _ _ node used both);
      }

  pub receive_period : (node p : ℕ) → IsPortChain t (sends_to t node) (p * table.period) (suc p * table.period) (period_ops t series table p)
  receive_period node p =
      port_chain (sends_to t node) (λ link. nat_eq (receiver_of t link) node) (λ link kind start. refl) (λ at start. refl)
      (All-weaker (IsMatching t (lanes_of table.routes)) (FreesPort t (lanes_of table.routes) (λ link. nat_eq (receiver_of t link) node)) frees table.slots keeps.slots) p
    where
      frees : (slot : Slot) → IsMatching t (lanes_of table.routes) slot → FreesPort t (lanes_of table.routes) (λ link. nat_eq (receiver_of t link) node) slot
      frees slot m = record {
        in_time = m.in_time;
        one_link = λ k d h l e i used both. m.receivers k d h l e i (same_end _ _ node used both);
      }

  pub compute_period : (node p : ℕ) → IsPortChain t (computes_at node) (p * table.period) (suc p * table.period) (period_ops t series table p)
  compute_period node p =
      chain_append (λ q. computes_at node q.op) (λ q. start_of q.op) (λ q. duration_of t t.unit q.op) (p * table.period) (p * table.period) (suc p * table.period)
      (sends_of_slots t (lanes_of table.routes) p (p * table.period) table.slots) (period_computes t series table p)
      (chain_unused (λ q. computes_at node q.op) (λ q. start_of q.op) (λ q. duration_of t t.unit q.op) (p * table.period) (p * table.period)
      (sends_of_slots t (lanes_of table.routes) p (p * table.period) table.slots)
      (slots_all t (lanes_of table.routes) (λ q. computes_at node q.op ≡ false) p (p * table.period) table.slots (λ k d h l e i s. refl)) (omega arith))
      (of_series series keeps.processors)
    where
      in_period : (p a b c P : ℕ) → a ≤ b → b * c ≤ P → p * P + (0 + a) * c ≤ suc p * P
      in_period p a b c P h k = let m : a * c ≤ b * c = mul-le-mul_right c h in omega arith

      of_series : (kind : Series) → HasTime t kind table → IsPortChain t (computes_at node) (p * table.period) (suc p * table.period) (period_computes t kind table p)
      of_series Tasking time =
          let e : p * table.period + 0 * time_of t node ≡ p * table.period = omega arith in
          subst (λ (from : ℕ). IsPortChain t (computes_at node) from (suc p * table.period) (period_computes t Tasking table p)) e
          (routes_chain t node (computes_at node) (λ at start. refl) lasts_compute (p * table.period) (suc p * table.period) [] (filter (has_arrived p) table.routes)
          (in_period p _ _ (time_of t node) table.period (sum_filter_le (λ route. cond (nat_eq route.end node) route.count 0) (has_arrived p) table.routes) (time node)))
      of_series Scatter time = omega arith

  pub send_chain : (node n : ℕ) → IsPortChain t (sends_from t node) 0 (n * table.period) (ops_below t series table n)
  send_chain node n = ops_chain (sends_from t node) (send_period node) n

  pub receive_chain : (node n : ℕ) → IsPortChain t (sends_to t node) 0 (n * table.period) (ops_below t series table n)
  receive_chain node n = ops_chain (sends_to t node) (receive_period node) n

  pub compute_chain : (node n : ℕ) → IsPortChain t (computes_at node) 0 (n * table.period) (ops_below t series table n)
  compute_chain node n = ops_chain (computes_at node) (compute_period node) n

  pub one_port : (n : ℕ) → IsOnePort t (table_schedule t series table n)
  one_port n = record {
    sends = λ node tick. single (sends_from t node) tick (send_chain node n);
    receives = λ node tick. single (sends_to t node) tick (receive_chain node n);
    computes = λ node tick. single (computes_at node) tick (compute_chain node n);
  }
    where
      single : (uses : Op → Bool) (tick : ℕ) → IsPortChain t uses 0 (n * table.period) (ops_below t series table n) →
          count_by (λ op. uses op && is_open t t.unit tick op) (table_schedule t series table n).ops ≤ 1
      single uses tick c =
          rw (count_in_order (λ op. uses op && is_open t t.unit tick op) (ops_below t series table n))
          (chain_single (λ q. uses q.op) (λ q. start_of q.op) (λ q. duration_of t t.unit q.op) tick 0 (n * table.period) (ops_below t series table n) c)

  -- every operation ends by the end of the last period
  pub in_time : (n : ℕ) → All (λ op. end_of t t.unit op ≤ n * table.period) (table_schedule t series table n).ops
  in_time n =
      all_in_order (λ op. end_of t t.unit op ≤ n * table.period) (ops_below t series table n)
      (λ k d h. of_op _
      (λ node. chain_within (λ q. sends_from t node q.op) (λ q. start_of q.op) (λ q. duration_of t t.unit q.op) 0 (n * table.period) (ops_below t series table n) (send_chain node n) k d h)
      (λ node. chain_within (λ q. computes_at node q.op) (λ q. start_of q.op) (λ q. duration_of t t.unit q.op) 0 (n * table.period) (ops_below t series table n) (compute_chain node n) k d h))
    where
      equal : (a : ℕ) → nat_eq a a ≡ true
      equal a = grind (arith, nat_tests)

      of_op : (op : Op) → ((node : ℕ) → sends_from t node op ≡ true → (0 ≤ start_of op) × (end_of t t.unit op ≤ n * table.period)) →
          ((node : ℕ) → computes_at node op ≡ true → (0 ≤ start_of op) × (end_of t t.unit op ≤ n * table.period)) → end_of t t.unit op ≤ n * table.period
      of_op (Send link kind start) sent computed = (sent (sender_of t link) (equal (sender_of t link))).1
      of_op (Compute at start) sent computed = (computed at (equal at)).1
