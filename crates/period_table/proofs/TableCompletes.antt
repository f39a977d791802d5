-- Once the first routes are full, each period completes the table's tasks.
use Rattle.std.proofs.Common.{◌≡◌, ℕ, zero, suc, ◌+◌, ◌-◌, ◌*◌, ◌<◌, ◌≤◌, ◌≢◌, Bool, true, false, ◌&&◌, cond, nat_eq, nat_le, min, List, [], ◌∷◌, length, slice_index, refl, ◌∙◌, ap, arith, inl, inr, All, count_by, sum_by}
use Rattle.std.proofs.lemmas.Bool.Decides.{nat_tests}
use Rattle.std.proofs.lemmas.Bool.{cases_lt}
use Rattle.std.proofs.lemmas.List.Elements.{All-head, All-tail, All-get_or}
use Rattle.std.proofs.lemmas.List.Sums.{sum_by-cons}
use Rattle.platform_file.specs.Ticks.{TimedView, IsTimed}
use Rattle.platform_file.specs.Platform.{is_master, master_of, IsTarget}
use Rattle.schedule_model.specs.declared.schedule.Series.{Series}
use Rattle.schedule_model.specs.declared.schedule.Series.TheVariants.{Tasking, Scatter}
use Rattle.schedule_model.specs.Operations.{is_compute, sends_to, is_of_kind}
use Rattle.schedule_model.specs.Validity.{completed, least, deliveries_from}
use Rattle.period_table.specs.declared.table.Table.{Table}
use Rattle.flow_routes.specs.declared.flow.Route.{Route}
use Rattle.period_table.specs.Lanes.{lanes_of}
use Rattle.period_table.specs.TableSchedules.{period_ops, table_schedule}
use Rattle.period_table.specs.Tables.{Fits, IsRoute, longest}
use Rattle.period_table.proofs.Chains.{true_or_false}
use Rattle.period_table.proofs.Conservation.{enters, routes_conserved, before_next}
use Rattle.period_table.proofs.Supply.{sum_below}
use Rattle.period_table.proofs.Totals.{send_total, compute_total, begins_elsewhere}
use Rattle.period_table.proofs.TableSupplied.{by_period, receives_kind}

-- where every period from the depth on has some tasks
reached : (depth tasks : ℕ) (each : ℕ → ℕ) → ((p : ℕ) → depth ≤ p → tasks ≤ each p) → (n : ℕ) → (n - depth) * tasks ≤ sum_below n each
reached depth tasks each h zero = let e : 0 - depth ≡ 0 = omega arith in rw e (omega arith)
reached depth tasks each h (suc n) =
    elim (cases_lt n depth) [
      | inl early ↦ let e : suc n - depth ≡ 0 = omega arith in rw e (omega arith)
      | inr late ↦
          let e : suc n - depth ≡ suc (n - depth) = omega arith in
          rw e (more (n - depth) tasks _ _ (reached depth tasks each h n) (h n late))
    ]
  where
    more : (m n a b : ℕ) → m * n ≤ a → n ≤ b → suc m * n ≤ a + b
    more m n a b h k = omega arith

-- every route is at most the depth long, and so has a batch at its end from that period on
full : (t : TimedView) (series : Series) (pass : Route → Bool) (test : Route → ℕ → Bool) (p : ℕ) (routes : List Route) → All (IsRoute t series) routes → longest routes ≤ p →
    ((route : Route) → IsRoute t series route → length route.links ≤ p → cond (pass route) route.count 0 ≤ cond (test route p) route.count 0) →
    sum_by (λ route. cond (pass route) route.count 0) routes ≤ sum_by (λ route. cond (test route p) route.count 0) routes
full t series pass test p [] each deep h = omega arith
full t series pass test p (route ∷ routes) each deep h =
    both _ _ _ _ _ _ (sum_by-cons (λ route. cond (pass route) route.count 0) route routes) (sum_by-cons (λ route. cond (test route p) route.count 0) route routes)
    (h route (All-head (IsRoute t series) route routes each) (omega arith))
    (full t series pass test p routes (All-tail (IsRoute t series) route routes each) (omega arith) h)
  where
    both : (a b v w m n : ℕ) → a ≡ v + m → b ≡ w + n → v ≤ w → m ≤ n → a ≤ b
    both a b v w m n e f g h = omega arith

completes_tasking : (t : TimedView) (table : Table) → Fits t Tasking table → (n : ℕ) →
    (n - table.depth) * table.tasks ≤ completed t Tasking (table_schedule t Tasking table n)
completes_tasking t table fits n =
    rw (by_period t Tasking table is_compute n)
    (reached table.depth table.tasks (λ p. count_by (λ q. is_compute q.op) (period_ops t Tasking table p)) each n)
  where
    here : (p m : ℕ) → m ≤ p → (c : ℕ) → c ≤ cond (nat_le m p && true) c 0
    here p m h c = grind (arith, nat_tests)

    each : (p : ℕ) → table.depth ≤ p → table.tasks ≤ count_by (λ q. is_compute q.op) (period_ops t Tasking table p)
    each p deep =
        chain _ _ _ _ fits.tasks
        (full t Tasking (λ route. true) (λ route p. nat_le (length route.links) p && true) p table.routes fits.routes (rw (← fits.depth) deep)
        (λ route r short. here p (length route.links) short route.count))
        (compute_total t table is_compute (λ at. true) (λ link kind s. refl) (λ at s. refl) p)
      where
        chain : (a b c d : ℕ) → a ≡ b → b ≤ c → d ≡ c → a ≤ d
        chain a b c d e f g = omega arith

-- where enough messages of each kind end at its target
all_delivered : (t : TimedView) (table : Table) (n x kind : ℕ) (targets : List ℕ) → 0 < length targets →
    ((i : ℕ) → i < length targets → x ≤ count_by (λ op. is_of_kind (kind + i) op && sends_to t (slice_index targets i) op) (table_schedule t Scatter table n).ops) →
    x ≤ least (deliveries_from t (table_schedule t Scatter table n) kind targets)
all_delivered t table n x kind [] some h = absurd (omega arith)
all_delivered t table n x kind (target ∷ []) some h = let e : kind + 0 ≡ kind = omega arith in rw e at (h 0 (omega arith))
all_delivered t table n x kind (target ∷ (next ∷ targets)) some h =
    let e : kind + 0 ≡ kind = omega arith in
    let first : x ≤ count_by (λ op. is_of_kind kind op && sends_to t target op) (table_schedule t Scatter table n).ops = rw e at (h 0 (omega arith)) in
    both _ _ _ first
    (all_delivered t table n x (kind + 1) (next ∷ targets) (omega arith)
    (λ i l. (let g : kind + 1 + i ≡ kind + suc i = omega arith in rw g (h (suc i) (omega arith)))))
  where
    both : (x a b : ℕ) → x ≤ a → x ≤ b → x ≤ min a b
    both x a b h k = omega arith

-- what ends at a target in a period, of its kind, once the routes are full
delivered : (t : TimedView) → IsTimed t → (table : Table) → Fits t Scatter table → (kind target : ℕ) → kind < length t.platform.targets →
    slice_index t.platform.targets kind ≡ target → (p : ℕ) → table.depth ≤ p →
    table.tasks ≤ count_by (λ q. receives_kind t kind target q.op) (period_ops t Scatter table p)
delivered t timed table fits kind target l is p deep =
    chain _ _ _ _ _ _ _ (fits.tasks.1 kind l)
    (full t Scatter (λ route. nat_eq route.kind kind) (λ route p. nat_le (length route.links) (suc p) && (nat_eq route.kind kind && nat_eq route.end target)) p table.routes fits.routes
    (rw (← fits.depth) deep) of_route)
    (routes_conserved t target (λ k. nat_eq k kind) (suc p) table.routes
    (begins_elsewhere t Scatter table.routes fits.routes target no_master (λ k. nat_eq k kind)))
    (before_next (enters t target (λ k. nat_eq k kind)) p (lanes_of table.routes))
    (send_total t Scatter table fits.slots fits.moved (receives_kind t kind target) (enters t target (λ k. nat_eq k kind)) (λ lane s. refl) (λ at s. refl) p)
  where
    chain : (a b c s r v w : ℕ) → a ≡ b → b ≤ c → s + c ≡ r → r ≡ v → w ≡ v → a ≤ w
    chain a b c s r v w e f g h i = omega arith

    apart : (a b : ℕ) → a ≢ b → nat_eq a b ≡ false
    apart a b h = grind (arith, nat_tests)

    no_master : is_master t.platform target ≡ false
    no_master = rw (← is) (apart _ _ (All-get_or (IsTarget t.platform.nodes (master_of t.platform)) t.platform.targets kind 0 l timed.platform.targets).no_master)

    of_route : (route : Route) → IsRoute t Scatter route → length route.links ≤ p →
        cond (nat_eq route.kind kind) route.count 0 ≤ cond (nat_le (length route.links) (suc p) && (nat_eq route.kind kind && nat_eq route.end target)) route.count 0
    of_route route r short = elim (true_or_false (nat_eq route.kind kind)) [
      | inl same ↦ rw (same, equal route.end target (r.ending.1 ∙ ap (slice_index t.platform.targets) (number route.kind kind same) ∙ is), within (length route.links) p short) (omega arith)
      | inr other ↦ rw other (omega arith)
    ]
      where
        equal : (a b : ℕ) → a ≡ b → nat_eq a b ≡ true
        equal a b e = grind (arith, nat_tests)

        number : (a b : ℕ) → nat_eq a b ≡ true → a ≡ b
        number a b e = grind (arith, nat_tests)

        within : (a b : ℕ) → a ≤ b → nat_le a (suc b) ≡ true
        within a b h = grind (arith, nat_tests)

completes_scatter : (t : TimedView) → IsTimed t → (table : Table) → Fits t Scatter table → (n : ℕ) →
    (n - table.depth) * table.tasks ≤ completed t Scatter (table_schedule t Scatter table n)
completes_scatter t timed table fits n =
    all_delivered t table n ((n - table.depth) * table.tasks) 0 t.platform.targets fits.tasks.0
    (λ kind l. (let e : 0 + kind ≡ kind = omega arith in rw e (of_kind kind (slice_index t.platform.targets kind) l refl)))
  where
    of_kind : (kind target : ℕ) → kind < length t.platform.targets → slice_index t.platform.targets kind ≡ target →
        (n - table.depth) * table.tasks ≤ count_by (λ op. is_of_kind kind op && sends_to t target op) (table_schedule t Scatter table n).ops
    of_kind kind target l is =
        rw (by_period t Scatter table (receives_kind t kind target) n)
        (reached table.depth table.tasks (λ p. count_by (λ q. receives_kind t kind target q.op) (period_ops t Scatter table p))
        (delivered t timed table fits kind target l is) n)

-- n periods complete at least the tasks of n - depth periods
pub completes : (t : TimedView) → IsTimed t → (series : Series) (table : Table) → Fits t series table → (n : ℕ) →
    (n - table.depth) * table.tasks ≤ completed t series (table_schedule t series table n)
completes t timed Tasking table fits n = completes_tasking t table fits n
completes t timed Scatter table fits n = completes_scatter t timed table fits n
