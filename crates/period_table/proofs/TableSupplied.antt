-- A table's schedule starts nothing that has not come.
use Rattle.std.proofs.Common.{◌≡◌, ℕ, suc, ◌+◌, ◌*◌, ◌≤◌, Bool, true, false, ◌&&◌, cond, nat_eq, refl, sym, ◌∙◌, ap, arith, count_by, sum_by}
use Rattle.std.proofs.lemmas.List.Elements.{All-weaker}
use Rattle.platform_file.specs.Ticks.{TimedView}
use Rattle.schedule_model.specs.declared.schedule.Op.{Op}
use Rattle.schedule_model.specs.declared.schedule.Series.{Series}
use Rattle.schedule_model.specs.declared.schedule.Series.TheVariants.{Tasking, Scatter}
use Rattle.schedule_model.specs.Operations.{start_of, duration_of, end_of, sends_from, sends_to, computes_at, is_of_kind, has_started, has_ended}
use Rattle.schedule_model.specs.Validity.{IsSupplied}
use Rattle.period_table.specs.declared.table.Table.{Table}
use Rattle.period_table.specs.Lanes.{lanes_of}
use Rattle.period_table.specs.TableSchedules.{period_ops, ops_below, table_schedule}
use Rattle.period_table.specs.Tables.{Fits, KeepsPorts}
use Rattle.period_table.proofs.Chains.{chain_within}
use Rattle.period_table.proofs.Counts.{sum_same}
use Rattle.period_table.proofs.Conservation.{before, leaves, enters, routes_conserved, before_next, before_first}
use Rattle.period_table.proofs.Periods.{count_in_order, send_period, receive_period, compute_period}
use Rattle.period_table.proofs.Supply.{sum_below, sum_below_plus, supplied_below, count_below, InPeriod, none_started, all_ended, some_started}
use Rattle.period_table.proofs.Totals.{send_total, compute_total, begins_elsewhere}

-- a count over the schedule, period by period
pub by_period : (t : TimedView) (series : Series) (table : Table) (f : Op → Bool) (n : ℕ) →
    count_by f (table_schedule t series table n).ops ≡ sum_below n (λ p. count_by (λ q. f q.op) (period_ops t series table p))
by_period t series table f n = count_in_order f (ops_below t series table n) ∙ count_below t series table (λ q. f q.op) n

sum_le : (a b c d : ℕ) → a ≤ c → b ≤ d → a + b ≤ c + d
sum_le a b c d h k = omega arith

sum_none : (a b : ℕ) → a ≡ 0 → b ≡ 0 → a + b ≡ 0
sum_none a b h k = omega arith

equal_le : (a b : ℕ) → a ≡ b → a ≤ b
equal_le a b h = omega arith

module _ (t : TimedView) (some_unit : 1 ≤ t.unit) (series : Series) (table : Table) (fits : Fits t series table) (keeps : KeepsPorts t series table) where
  sends_within : (node p : ℕ) → InPeriod t series table (sends_from t node) p
  sends_within node p =
      chain_within (λ q. sends_from t node q.op) (λ q. start_of q.op) (λ q. duration_of t t.unit q.op) (p * table.period) (suc p * table.period)
      (period_ops t series table p) (send_period t some_unit series table fits.period keeps node p)

  receives_within : (node p : ℕ) → InPeriod t series table (sends_to t node) p
  receives_within node p =
      chain_within (λ q. sends_to t node q.op) (λ q. start_of q.op) (λ q. duration_of t t.unit q.op) (p * table.period) (suc p * table.period)
      (period_ops t series table p) (receive_period t some_unit series table fits.period keeps node p)

  computes_within : (node p : ℕ) → InPeriod t series table (computes_at node) p
  computes_within node p =
      chain_within (λ q. computes_at node q.op) (λ q. start_of q.op) (λ q. duration_of t t.unit q.op) (p * table.period) (suc p * table.period)
      (period_ops t series table p) (compute_period t some_unit series table fits.period keeps node p)

supplied_tasking : (t : TimedView) → 1 ≤ t.unit → (table : Table) → Fits t Tasking table → KeepsPorts t Tasking table → (n : ℕ) →
    IsSupplied t Tasking (table_schedule t Tasking table n)
supplied_tasking t some_unit table fits keeps n node tick away =
    joined _ _ _ _ _ _ _
    (by_period t Tasking table (λ op. sends_from t node op && has_started tick op) n)
    (by_period t Tasking table (λ op. computes_at node op && has_started tick op) n)
    (sum_below_plus n
    (λ p. count_by (λ q. sends_from t node q.op && has_started tick q.op) (period_ops t Tasking table p))
    (λ p. count_by (λ q. computes_at node q.op && has_started tick q.op) (period_ops t Tasking table p)))
    (by_period t Tasking table (λ op. sends_to t node op && has_ended t t.unit tick op) n)
    (supplied_below table.period tick
    (λ p. count_by (λ q. sends_from t node q.op && has_started tick q.op) (period_ops t Tasking table p) + count_by (λ q. computes_at node q.op && has_started tick q.op) (period_ops t Tasking table p))
    (λ p. count_by (λ q. sends_to t node q.op && has_ended t t.unit tick q.op) (period_ops t Tasking table p))
    (λ p. count_by (λ q. sends_from t node q.op) (period_ops t Tasking table p) + count_by (λ q. computes_at node q.op) (period_ops t Tasking table p))
    (λ p. count_by (λ q. sends_to t node q.op) (period_ops t Tasking table p))
    (λ p. sum_le _ _ _ _
    (some_started t Tasking table (sends_from t node) (sends_within t some_unit Tasking table fits keeps node) tick p)
    (some_started t Tasking table (computes_at node) (computes_within t some_unit Tasking table fits keeps node) tick p))
    (λ p h. sum_none _ _
    (none_started t Tasking table (sends_from t node) (sends_within t some_unit Tasking table fits keeps node) tick p h)
    (none_started t Tasking table (computes_at node) (computes_within t some_unit Tasking table fits keeps node) tick p h))
    (λ p h. all_ended t Tasking table (sends_to t node) (receives_within t some_unit Tasking table fits keeps node) tick p h)
    (used 0 ∙ before_first (enters t node (λ kind. true)) (lanes_of table.routes))
    (λ p. equal_le _ _ (used (suc p) ∙ before_next (enters t node (λ kind. true)) p (lanes_of table.routes)
    ∙ sym (send_total t Tasking table fits.slots fits.moved (sends_to t node) (enters t node (λ kind. true)) (λ lane s. refl) (λ at s. refl) p)))
    n)
  where
    joined : (a b x y z r w : ℕ) → a ≡ x → b ≡ y → x + y ≡ z → r ≡ w → z ≤ w → a + b ≤ r
    joined a b x y z r w e f g h i = omega arith

    used : (p : ℕ) → count_by (λ q. sends_from t node q.op) (period_ops t Tasking table p) + count_by (λ q. computes_at node q.op) (period_ops t Tasking table p)
        ≡ sum_by (before (enters t node (λ kind. true)) p) (lanes_of table.routes)
    used p =
        three _ _ _ _ _
        (send_total t Tasking table fits.slots fits.moved (sends_from t node) (leaves t node (λ kind. true)) (λ lane s. refl) (λ at s. refl) p)
        (compute_total t table (computes_at node) (λ at. nat_eq at node) (λ link kind s. refl) (λ at s. refl) p)
        (routes_conserved t node (λ kind. true) p table.routes (begins_elsewhere t Tasking table.routes fits.routes node away (λ kind. true)))
      where
        three : (a b x y z : ℕ) → a ≡ x → b ≡ y → x + y ≡ z → a + b ≡ z
        three a b x y z e f g = omega arith

-- a message of a kind that the operation moves from a node, or to it
abbrev pub sends_kind : TimedView → ℕ → ℕ → Op → Bool
sends_kind t kind node op = is_of_kind kind op && sends_from t node op

abbrev pub receives_kind : TimedView → ℕ → ℕ → Op → Bool
receives_kind t kind node op = is_of_kind kind op && sends_to t node op

of_both : (a b : Bool) → (a && b) ≡ true → b ≡ true
of_both true b e = e
of_both false b e = cc

kind_within : (t : TimedView) (series : Series) (table : Table) (kind : ℕ) (uses : Op → Bool) (p : ℕ) → InPeriod t series table uses p →
    InPeriod t series table (λ op. is_of_kind kind op && uses op) p
kind_within t series table kind uses p h =
    All-weaker
    (λ q. uses q.op ≡ true → (p * table.period ≤ start_of q.op) × (end_of t t.unit q.op ≤ suc p * table.period))
    (λ q. (is_of_kind kind q.op && uses q.op) ≡ true → (p * table.period ≤ start_of q.op) × (end_of t t.unit q.op ≤ suc p * table.period))
    (λ q w e. w (of_both (is_of_kind kind q.op) (uses q.op) e)) (period_ops t series table p) h

regroup : (a b c : Bool) → (a && (b && c)) ≡ ((a && b) && c)
regroup true b c = refl
regroup false b c = refl

pub supplied_scatter : (t : TimedView) → 1 ≤ t.unit → (table : Table) → Fits t Scatter table → KeepsPorts t Scatter table → (n : ℕ) →
    IsSupplied t Scatter (table_schedule t Scatter table n)
supplied_scatter t some_unit table fits keeps n kind node tick exists away =
    joined _ _ _ _
    (sum_same (λ op. cond (is_of_kind kind op && (sends_from t node op && has_started tick op)) 1 0) (λ op. cond (sends_kind t kind node op && has_started tick op) 1 0)
    (table_schedule t Scatter table n).ops (λ op. ap (λ b. cond b 1 0) (regroup (is_of_kind kind op) (sends_from t node op) (has_started tick op)))
    ∙ by_period t Scatter table (λ op. sends_kind t kind node op && has_started tick op) n)
    (sum_same (λ op. cond (is_of_kind kind op && (sends_to t node op && has_ended t t.unit tick op)) 1 0) (λ op. cond (receives_kind t kind node op && has_ended t t.unit tick op) 1 0)
    (table_schedule t Scatter table n).ops (λ op. ap (λ b. cond b 1 0) (regroup (is_of_kind kind op) (sends_to t node op) (has_ended t t.unit tick op)))
    ∙ by_period t Scatter table (λ op. receives_kind t kind node op && has_ended t t.unit tick op) n)
    (supplied_below table.period tick
    (λ p. count_by (λ q. sends_kind t kind node q.op && has_started tick q.op) (period_ops t Scatter table p))
    (λ p. count_by (λ q. receives_kind t kind node q.op && has_ended t t.unit tick q.op) (period_ops t Scatter table p))
    (λ p. count_by (λ q. sends_kind t kind node q.op) (period_ops t Scatter table p))
    (λ p. count_by (λ q. receives_kind t kind node q.op) (period_ops t Scatter table p))
    (λ p. some_started t Scatter table (sends_kind t kind node) sent tick p)
    (λ p h. none_started t Scatter table (sends_kind t kind node) sent tick p h)
    (λ p h. all_ended t Scatter table (receives_kind t kind node) received tick p h)
    (first _ _ (used 0) (before_first (enters t node (λ k. nat_eq k kind)) (lanes_of table.routes)))
    (λ p. next _ _ _ _ (used (suc p)) (before_next (enters t node (λ k. nat_eq k kind)) p (lanes_of table.routes))
    (send_total t Scatter table fits.slots fits.moved (receives_kind t kind node) (enters t node (λ k. nat_eq k kind)) (λ lane s. refl) (λ at s. refl) p))
    n)
  where
    joined : (a r x y : ℕ) → a ≡ x → r ≡ y → x ≤ y → a ≤ r
    joined a r x y e f g = omega arith

    first : (a b : ℕ) → a ≤ b → b ≡ 0 → a ≡ 0
    first a b h e = omega arith

    next : (a b c d : ℕ) → a ≤ b → b ≡ c → d ≡ c → a ≤ d
    next a b c d h e f = omega arith

    sent : (p : ℕ) → InPeriod t Scatter table (sends_kind t kind node) p
    sent p = kind_within t Scatter table kind (sends_from t node) p (sends_within t some_unit Scatter table fits keeps node p)

    received : (p : ℕ) → InPeriod t Scatter table (receives_kind t kind node) p
    received p = kind_within t Scatter table kind (sends_to t node) p (receives_within t some_unit Scatter table fits keeps node p)

    used : (p : ℕ) → count_by (λ q. sends_kind t kind node q.op) (period_ops t Scatter table p) ≤ sum_by (before (enters t node (λ k. nat_eq k kind)) p) (lanes_of table.routes)
    used p =
        part _ _ _ _
        (send_total t Scatter table fits.slots fits.moved (sends_kind t kind node) (leaves t node (λ k. nat_eq k kind)) (λ lane s. refl) (λ at s. refl) p)
        (routes_conserved t node (λ k. nat_eq k kind) p table.routes (begins_elsewhere t Scatter table.routes fits.routes node away (λ k. nat_eq k kind)))
      where
        part : (a x y z : ℕ) → a ≡ x → x + y ≡ z → a ≤ z
        part a x y z e f = omega arith

-- no node but a master starts more than it has received
pub supplied : (t : TimedView) → 1 ≤ t.unit → (series : Series) (table : Table) → Fits t series table → KeepsPorts t series table → (n : ℕ) →
    IsSupplied t series (table_schedule t series table n)
supplied t some_unit Tasking table fits keeps n = supplied_tasking t some_unit table fits keeps n
supplied t some_unit Scatter table fits keeps n = supplied_scatter t some_unit table fits keeps n
