-- What a node begins to send of a kind, and what it gets, in a schedule that a platform can carry out.
use Rattle.std.proofs.Common.{◌≡◌, ℕ, zero, suc, ◌+◌, ◌<◌, ◌≤◌, Bool, true, false, not, ◌&&◌, cond, min, nat_eq, List, [], ◌∷◌, length, get_or, slice_index, All, count_by, pos, ◌+ℤ◌, ◌-ℤ◌, ◌≤ℤ◌, refl, subst, arith}
use Rattle.std.proofs.lemmas.Int.{ints}
use Rattle.std.proofs.lemmas.Bool.{eqb-true, ne_eqb, le-leb}
use Rattle.std.proofs.lemmas.Option.{slice_get-get_or}
use Rattle.std.proofs.lemmas.List.Sums.{sum_by-cons}
use Rattle.std.proofs.lemmas.List.Elements.{All-head, All-tail}
use Rattle.platform_file.specs.Platform.{is_master}
use Rattle.platform_file.specs.Ticks.{TimedView}
use Rattle.schedule_model.specs.declared.schedule.Op.{Op}
use Rattle.schedule_model.specs.declared.schedule.Op.TheVariants.{Send, Compute}
use Rattle.schedule_model.specs.declared.schedule.Series.TheVariants.{Scatter}
use Rattle.schedule_model.specs.declared.schedule.Schedule.{Schedule}
use Rattle.schedule_model.specs.Operations.{start_of, sender_of, receiver_of, sends_from, sends_to, is_of_kind, has_started, has_ended}
use Rattle.schedule_model.specs.Validity.{IsInRange, KeepsOwn, IsValid, least, deliveries_from, completed}
use Rattle.schedule_model.proofs.PortUse.{count_alike, count_none}
use Rattle.schedule_model.proofs.Stocks.{count_fewer}
use Rattle.programme_rows.specs.Cells.{where_true}
use Rattle.programme_rows.proofs.Listings.{sum_over}
use Rattle.scatter_program.specs.declared.rows.Limit.TheVariants.{Supply}
use Rattle.scatter_program.specs.Columns.{target_of}
use Rattle.scatter_program.specs.Rows.{cell_of}
use Rattle.scatter_program.proofs.Weights.{weight}

-- how many messages of a kind a node sends
abbrev pub sent_by : TimedView → ℕ → ℕ → List Op → ℕ
sent_by t kind node ops = count_by (λ op. is_of_kind kind op && sends_from t node op) ops

-- how many it gets
abbrev pub got_by : TimedView → ℕ → ℕ → List Op → ℕ
got_by t kind node ops = count_by (λ op. is_of_kind kind op && sends_to t node op) ops

-- no target sends messages of its own kind
keeps : (t : TimedView) (link own start : ℕ) → own < length t.platform.targets → KeepsOwn t Scatter (Send link own start) → nat_eq (sender_of t link) (target_of t own) ≡ false
keeps t link own start l h = ne_eqb (sender_of t link) (target_of t own) (rw (slice_get-get_or t.platform.targets own 0 l) at h)

-- what all operations weigh in a node's supply of a kind: what it begins to send less what it gets
pub supply_weighs : (t : TimedView) (kind node : ℕ) → is_master t.platform node ≡ false → (ops : List Op) → All (IsInRange t Scatter) ops → All (KeepsOwn t Scatter) ops →
    (sum_over (weight t (cell_of t (Supply kind) node)) ops +ℤ pos (got_by t kind node ops)) ≤ℤ pos (sent_by t kind node ops)
supply_weighs t kind node away [] range own_kept = omega (arith, ints)
supply_weighs t kind node away (op ∷ ops) range own_kept =
    let rest = supply_weighs t kind node away ops (All-tail (IsInRange t Scatter) op ops range) (All-tail (KeepsOwn t Scatter) op ops own_kept) in
    let here = one op (All-head (IsInRange t Scatter) op ops range) (All-head (KeepsOwn t Scatter) op ops own_kept) in
    omega (
      arith,
      ints,
      rest,
      here,
      sum_by-cons (λ o. cond (is_of_kind kind o && sends_to t node o) 1 0) op ops,
      sum_by-cons (λ o. cond (is_of_kind kind o && sends_from t node o) 1 0) op ops,
    )
  where
    sent : (enters leaves same from to : Bool) → leaves ≡ false → (enters ≡ true → to ≡ false) →
        (where_true (not enters && not leaves) (where_true same (where_true from (pos 1) -ℤ where_true to (pos 1))) +ℤ pos (cond (same && to) 1 0)) ≤ℤ pos (cond (same && from) 1 0)
    sent enters true same from to e h = absurd cc
    sent false false false from to e h = omega (arith, ints)
    sent true false false from to e h = omega (arith, ints)
    sent false false true true true e h = omega (arith, ints)
    sent false false true true false e h = omega (arith, ints)
    sent false false true false true e h = omega (arith, ints)
    sent false false true false false e h = omega (arith, ints)
    sent true false true true to e h = rw (h refl) (omega (arith, ints))
    sent true false true false to e h = rw (h refl) (omega (arith, ints))

    not_here : (link : ℕ) → is_master t.platform (receiver_of t link) ≡ true → (b : Bool) → nat_eq (receiver_of t link) node ≡ b → b ≡ false
    not_here link enters false e = refl
    not_here link enters true e = absurd (clash (is_master t.platform node) (rw (eqb-true (receiver_of t link) node e) at enters) away)
      where
        clash : (b : Bool) → b ≡ true → b ≡ false → ⊥
        clash true e f = absurd cc
        clash false e f = absurd cc

    one : (op : Op) → IsInRange t Scatter op → KeepsOwn t Scatter op →
        (weight t (cell_of t (Supply kind) node) op +ℤ pos (cond (is_of_kind kind op && sends_to t node op) 1 0)) ≤ℤ pos (cond (is_of_kind kind op && sends_from t node op) 1 0)
    one (Send link own start) range own_kept =
        sent (is_master t.platform (receiver_of t link)) (nat_eq (sender_of t link) (target_of t own)) (nat_eq own kind) (nat_eq (sender_of t link) node) (nat_eq (receiver_of t link) node)
        (keeps t link own start range.1 own_kept) (λ e. not_here link e _ refl)
    one (Compute node start) range own_kept = absurd range

-- the least of the deliveries is at most each
pub least_delivered : (t : TimedView) (s : Schedule) (first : ℕ) (targets : List ℕ) (k : ℕ) → k < length targets →
    least (deliveries_from t s first targets) ≤ got_by t (first + k) (slice_index targets k) s.ops
least_delivered t s first [] k l = absurd (omega arith)
least_delivered t s first (target ∷ []) zero l = at_first first (λ kind. got_by t kind target s.ops)
  where
    at_first : (n : ℕ) (f : ℕ → ℕ) → f n ≤ f (n + 0)
    at_first n f = let same : n + 0 ≡ n = omega arith in rw same (omega arith)
least_delivered t s first (target ∷ []) (suc k) l = absurd (omega arith)
least_delivered t s first (target ∷ (next ∷ targets)) zero l = less _ _ (at_first first (λ kind. got_by t kind target s.ops))
  where
    at_first : (n : ℕ) (f : ℕ → ℕ) → f n ≤ f (n + 0)
    at_first n f = let same : n + 0 ≡ n = omega arith in rw same (omega arith)

    less : (a b : ℕ) {c : ℕ} → a ≤ c → min a b ≤ c
    less a b h = grind (arith, h)
least_delivered t s first (target ∷ (next ∷ targets)) (suc k) l =
    let further : (first + 1) + k ≡ first + suc k = omega arith in
    less _ _ (subst (λ kind. least (deliveries_from t s (first + 1) (next ∷ targets)) ≤ got_by t kind (slice_index (next ∷ targets) k) s.ops) further (least_delivered t s (first + 1) (next ∷ targets) k (omega arith)))
  where
    less : (a b : ℕ) {c : ℕ} → b ≤ c → min a b ≤ c
    less a b h = grind (arith, h)

module _ (t : TimedView) (s : Schedule) (valid : IsValid t Scatter s) (kind : ℕ) (exists : kind < length t.platform.targets) where
  -- every target gets what the schedule completes
  pub delivered : completed t Scatter s ≤ got_by t kind (target_of t kind) s.ops
  delivered =
      let own : 0 + kind ≡ kind = omega arith in
      subst (λ k. least (deliveries_from t s 0 t.platform.targets) ≤ got_by t k (target_of t kind) s.ops) own (least_delivered t s 0 t.platform.targets kind exists)

  -- a target sends nothing of its own kind
  pub none_sent : sent_by t kind (target_of t kind) s.ops ≡ 0
  none_sent =
      count_none (λ op. is_of_kind kind op && sends_from t (target_of t kind) op) s.ops (λ i d l. one _ (valid.well_formed.in_range i d l) (valid.well_formed.own_kept i d l))
    where
      of_kind : (link own start : ℕ) → own < length t.platform.targets → KeepsOwn t Scatter (Send link own start) → (b : Bool) → nat_eq own kind ≡ b → (b && nat_eq (sender_of t link) (target_of t kind)) ≡ false
      of_kind link own start l h false e = refl
      of_kind link own start l h true e = subst (λ k. nat_eq (sender_of t link) (target_of t k) ≡ false) (eqb-true own kind e) (keeps t link own start l h)

      one : (op : Op) → IsInRange t Scatter op → KeepsOwn t Scatter op → (is_of_kind kind op && sends_from t (target_of t kind) op) ≡ false
      one (Send link own start) range own_kept = of_kind link own start range.1 own_kept (nat_eq own kind) refl
      one (Compute node start) range own_kept = refl

  -- at the end all operations have begun, so that a node has begun to send no more than it has got
  pub begun_at_end : (node : ℕ) → is_master t.platform node ≡ false → sent_by t kind node s.ops ≤ got_by t kind node s.ops
  begun_at_end node away =
      few _ _ _ _ (count_alike (λ op. is_of_kind kind op && (sends_from t node op && has_started s.length op)) (λ op. is_of_kind kind op && sends_from t node op) s.ops
      (λ i d l. at_end (is_of_kind kind _) (sends_from t node _) _ (begun i d l)))
      (count_fewer (λ op. is_of_kind kind op && (sends_to t node op && has_ended t s.ticks_per_unit s.length op)) (λ op. is_of_kind kind op && sends_to t node op) s.ops
      (λ op. front (is_of_kind kind op) (sends_to t node op) _))
      (valid.supplied kind node s.length exists away)
    where
      begun : (i : ℕ) (d : Op) → i < length s.ops → has_started s.length (get_or s.ops i d) ≡ true
      begun i d l = let ends = valid.well_formed.in_time i d l in le-leb (start_of (get_or s.ops i d)) s.length (omega (arith, ends))

      at_end : (a b c : Bool) → c ≡ true → (a && (b && c)) ≡ (a && b)
      at_end true true c e = e
      at_end true false c e = refl
      at_end false b c e = refl

      front : (a b c : Bool) → (a && (b && c)) ≡ true → (a && b) ≡ true
      front true true c e = refl
      front true false c e = e
      front false b c e = e

      few : (a c x z : ℕ) → a ≡ x → c ≤ z → a ≤ c → x ≤ z
      few a c x z e h l = omega arith
