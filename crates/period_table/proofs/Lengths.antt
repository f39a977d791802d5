-- How many operations a table's schedule has: by its lanes and routes alone.
use Rattle.std.proofs.Common.{◌≡◌, ℕ, zero, suc, ◌+◌, ◌-◌, ◌*◌, ◌<◌, ◌≤◌, Bool, true, false, ◌&&◌, not, cond, nat_le, List, [], ◌∷◌, length, refl, sym, ◌∙◌, ap, arith, inl, inr, count_by, sum_by}
use Rattle.std.proofs.lemmas.Bool.Decides.{nat_tests}
use Rattle.std.proofs.lemmas.Bool.{cases_lt}
use Rattle.std.proofs.lemmas.List.{length-append}
use Rattle.std.proofs.lemmas.List.Sums.{sum_by-cons, sum_by-append}
use Rattle.platform_file.specs.Ticks.{TimedView}
use Rattle.schedule_model.specs.declared.schedule.Series.{Series}
use Rattle.schedule_model.specs.declared.schedule.Series.TheVariants.{Tasking, Scatter}
use Rattle.schedule_model.specs.Operations.{is_compute}
use Rattle.flow_routes.specs.declared.flow.Route.{Route}
use Rattle.period_table.specs.declared.table.Table.{Table}
use Rattle.period_table.specs.Lanes.{LaneAt, lanes_of}
use Rattle.period_table.specs.TableSchedules.{Placed, sends_of_slots, period_ops, ops_below}
use Rattle.period_table.specs.Counts.{sends_below, computes_below}
use Rattle.period_table.specs.Tables.{Fits}
use Rattle.period_table.proofs.Chains.{true_or_false, count_none}
use Rattle.period_table.proofs.Runs.{slots_all}
use Rattle.period_table.proofs.Counts.{sum_same}
use Rattle.period_table.proofs.Conservation.{now}
use Rattle.period_table.proofs.Totals.{send_total, compute_total}

-- every operation passes a test or its contrary
split : {X : Type 0} (f : X → Bool) (xs : List X) → length xs ≡ count_by f xs + count_by (λ x. not (f x)) xs
split f [] = refl
split f (x ∷ xs) =
    elim (true_or_false (f x)) [
      | inl does ↦ joined _ _ _ _ _ _ _ (split f xs) (sum_by-cons (λ y. cond (f y) 1 0) x xs) (ap (λ b. cond {A = ℕ} b 1 0) does) (sum_by-cons (λ y. cond (not (f y)) 1 0) x xs) (ap (λ b. cond {A = ℕ} (not b) 1 0) does)
      | inr doesnt ↦ other _ _ _ _ _ _ _ (split f xs) (sum_by-cons (λ y. cond (f y) 1 0) x xs) (ap (λ b. cond {A = ℕ} b 1 0) doesnt) (sum_by-cons (λ y. cond (not (f y)) 1 0) x xs) (ap (λ b. cond {A = ℕ} (not b) 1 0) doesnt)
    ]
  where
    joined : (l a b n m v w : ℕ) → l ≡ n + m → a ≡ v + n → v ≡ 1 → b ≡ w + m → w ≡ 0 → suc l ≡ a + b
    joined l a b n m v w e f g h i = omega arith

    other : (l a b n m v w : ℕ) → l ≡ n + m → a ≡ v + n → v ≡ 0 → b ≡ w + m → w ≡ 1 → suc l ≡ a + b
    other l a b n m v w e f g h i = omega arith

-- one more period has one more batch from where there are batches on
one_more : {X : Type 0} (from count : X → ℕ) (n : ℕ) (xs : List X) →
    sum_by (λ x. (n + 1 - from x) * count x) xs ≡ sum_by (λ x. (n - from x) * count x) xs + sum_by (λ x. cond (nat_le (from x) n) (count x) 0) xs
one_more from count n [] = refl
one_more from count n (x ∷ xs) =
    joined _ _ _ _ _ _ _ _ _ (sum_by-cons (λ x. (n + 1 - from x) * count x) x xs) (sum_by-cons (λ x. (n - from x) * count x) x xs)
    (sum_by-cons (λ x. cond (nat_le (from x) n) (count x) 0) x xs) (one_more from count n xs) (batch (from x) (count x))
  where
    batch : (f c : ℕ) → (n + 1 - f) * c ≡ (n - f) * c + cond (nat_le f n) c 0
    batch f c = elim (true_or_false (nat_le f n)) [
      | inl come ↦ rw come (let e : n + 1 - f ≡ (n - f) + 1 = come_by f (within f n come) in rw e (omega arith))
      | inr away ↦ rw away (let e : n + 1 - f ≡ 0 = away_by f (past f n away) in let g : n - f ≡ 0 = away_now f (past f n away) in rw (e, g) (omega arith))
    ]
      where
        within : (a b : ℕ) → nat_le a b ≡ true → a ≤ b
        within a b e = grind (arith, nat_tests)

        past : (a b : ℕ) → nat_le a b ≡ false → b < a
        past a b e = grind (arith, nat_tests)

        come_by : (f : ℕ) → f ≤ n → n + 1 - f ≡ (n - f) + 1
        come_by f l = omega arith

        away_by : (f : ℕ) → n < f → n + 1 - f ≡ 0
        away_by f l = omega arith

        away_now : (f : ℕ) → n < f → n - f ≡ 0
        away_now f l = omega arith

    joined : (a b c v w u m n k : ℕ) → a ≡ v + m → b ≡ w + n → c ≡ u + k → m ≡ n + k → v ≡ w + u → a ≡ b + c
    joined a b c v w u m n k e f g h i = omega arith

and_true : (b : Bool) → (b && true) ≡ b
and_true true = refl
and_true false = refl

none_yet : {X : Type 0} (from count : X → ℕ) (xs : List X) → sum_by (λ x. (0 - from x) * count x) xs ≡ 0
none_yet from count [] = refl
none_yet from count (x ∷ xs) = zeros _ _ _ (sum_by-cons (λ x. (0 - from x) * count x) x xs) (none_yet from count xs) (nothing (from x) (count x))
  where
    zeros : (a v n : ℕ) → a ≡ v + n → n ≡ 0 → v ≡ 0 → a ≡ 0
    zeros a v n e f g = omega arith

    nothing : (f c : ℕ) → (0 - f) * c ≡ 0
    nothing f c = let e : 0 - f ≡ 0 = omega arith in rw e (omega arith)

module _ (t : TimedView) (series : Series) (table : Table) (fits : Fits t series table) where
  abbrev is_send : Placed → Bool
  is_send q = not (is_compute q.op)

  sends_of_period : (p : ℕ) → count_by is_send (period_ops t series table p) ≡ sum_by (λ lane. cond (nat_le lane.hop p) lane.count 0) (lanes_of table.routes)
  sends_of_period p =
      send_total t series table fits.slots fits.moved (λ op. not (is_compute op)) (λ lane. true) (λ lane s. refl) (λ at s. refl) p
      ∙ sum_same (now (λ lane. true) p) (λ lane. cond (nat_le lane.hop p) lane.count 0) (lanes_of table.routes) (λ lane. ap (λ b. cond b lane.count 0) (and_true (nat_le lane.hop p)))

  count_sends : (n : ℕ) → count_by is_send (ops_below t series table n) ≡ sends_below (lanes_of table.routes) n
  count_sends zero = sym (none_yet (λ (lane : LaneAt). lane.hop) (λ (lane : LaneAt). lane.count) (lanes_of table.routes))
  count_sends (suc n) =
      let next : suc n ≡ n + 1 = omega arith in
      sum_by-append (λ q. cond (is_send q) 1 0) (ops_below t series table n) (period_ops t series table n)
      ∙ rw (count_sends n, sends_of_period n) (sym (rw next (one_more (λ (lane : LaneAt). lane.hop) (λ (lane : LaneAt). lane.count) n (lanes_of table.routes))))

computes_of_period : (t : TimedView) (table : Table) (p : ℕ) →
    count_by (λ q. is_compute q.op) (period_ops t Tasking table p) ≡ sum_by (λ route. cond (nat_le (length route.links) p) route.count 0) table.routes
computes_of_period t table p =
    compute_total t table is_compute (λ at. true) (λ link kind s. refl) (λ at s. refl) p
    ∙ sum_same (λ route. cond (nat_le (length route.links) p && true) route.count 0) (λ route. cond (nat_le (length route.links) p) route.count 0) table.routes
    (λ route. ap (λ b. cond b route.count 0) (and_true (nat_le (length route.links) p)))

no_computes : (t : TimedView) (table : Table) (p : ℕ) → count_by (λ q. is_compute q.op) (period_ops t Scatter table p) ≡ 0
no_computes t table p =
    sum_by-append (λ q. cond (is_compute q.op) 1 0) (sends_of_slots t (lanes_of table.routes) p (p * table.period) table.slots) []
    ∙ rw (count_none (λ q. is_compute q.op) (sends_of_slots t (lanes_of table.routes) p (p * table.period) table.slots)
    (slots_all t (lanes_of table.routes) (λ q. is_compute q.op ≡ false) p (p * table.period) table.slots (λ k d h l e i s. refl))) refl

count_computes : (t : TimedView) (series : Series) (table : Table) (n : ℕ) → count_by (λ q. is_compute q.op) (ops_below t series table n) ≡ computes_below series table.routes n
count_computes t Tasking table zero = sym (none_yet (λ (route : Route). length route.links) (λ (route : Route). route.count) table.routes)
count_computes t Tasking table (suc n) =
    let next : suc n ≡ n + 1 = omega arith in
    sum_by-append (λ q. cond (is_compute q.op) 1 0) (ops_below t Tasking table n) (period_ops t Tasking table n)
    ∙ rw (count_computes t Tasking table n, computes_of_period t table n)
    (sym (rw next (one_more (λ (route : Route). length route.links) (λ (route : Route). route.count) n table.routes)))
count_computes t Scatter table zero = refl
count_computes t Scatter table (suc n) =
    sum_by-append (λ q. cond (is_compute q.op) 1 0) (ops_below t Scatter table n) (period_ops t Scatter table n)
    ∙ rw (count_computes t Scatter table n, no_computes t table n) refl

pub length_below : (t : TimedView) (series : Series) (table : Table) → Fits t series table → (n : ℕ) →
    length (ops_below t series table n) ≡ computes_below series table.routes n + sends_below (lanes_of table.routes) n
length_below t series table fits n =
    split (λ q. is_compute q.op) (ops_below t series table n) ∙ rw (count_computes t series table n, count_sends t series table fits n) refl

-- a period has no more operations than all of them
pub length_of_period : (t : TimedView) (series : Series) (table : Table) (p n : ℕ) → p < n → length (period_ops t series table p) ≤ length (ops_below t series table n)
length_of_period t series table p zero l = absurd (omega arith)
length_of_period t series table p (suc n) l =
    let all = length-append (ops_below t series table n) (period_ops t series table n) in
    elim (cases_lt p n) [
      | inl earlier ↦ let rest = length_of_period t series table p n earlier in omega (arith, all, rest)
      | inr last ↦ let same : p ≡ n = omega (arith, l, last) in rw same (omega (arith, all))
    ]
