-- From the tally of all operations, or of those up to a broken rule, to the verdict on the schedule.
use Rattle.std.proofs.Common.{◌≡◌, ℕ, zero, suc, ◌+◌, ◌%◌, ◌<◌, ◌≤◌, true, ◌&&◌, nat_lt, nat_eq, List, [], ◌∷◌, length, get_or, take, replicate, slice_index, slice_set, Some, None, All, refl, ap, arith}
use Rattle.std.proofs.lemmas.Bool.{and_parts, ltb-true, eqb-true}
use Rattle.std.proofs.lemmas.List.{take_more, get_or-replicate, length-replicate}
use Rattle.std.proofs.lemmas.List.Elements.{All-nil, All-set, All-head, All-tail}
use Rattle.platform_file.specs.Ticks.{TimedView, IsTimed}
use Rattle.schedule_model.specs.declared.breach.Rule.{Rule}
use Rattle.schedule_model.specs.declared.breach.Rule.TheVariants.{Unit as WholeUnit, Order, Range, Late, SendPort, ReceivePort, ComputePort, OwnType, Supply}
use Rattle.schedule_model.specs.declared.tally.Tally.{Tally}
use Rattle.schedule_model.specs.declared.schedule.Op.{Op}
use Rattle.schedule_model.specs.declared.schedule.Op.TheVariants.{Send, Compute}
use Rattle.schedule_model.specs.declared.schedule.Series.{Series}
use Rattle.schedule_model.specs.declared.schedule.Series.TheVariants.{Tasking, Scatter}
use Rattle.schedule_model.specs.declared.schedule.Schedule.{Schedule}
use Rattle.schedule_model.specs.Operations.{end_of}
use Rattle.schedule_model.specs.Validity.{IsInRange, KeepsOwn, IsValid, least, deliveries_from, completed}
use Rattle.schedule_model.specs.Breaches.{Keeps, rank_of, first_ops, IsFirstBreach}
use Rattle.schedule_model.specs.Tallies.{broken_rule, noted, deliveries_of, tallied}
use Rattle.schedule_model.proofs.Moves.{kinds}
use Rattle.schedule_model.proofs.Prefixes.{with_ops, keeps_all}
use Rattle.schedule_model.proofs.Tallied.{IsTally}
use Rattle.schedule_model.proofs.Outcomes.{OutcomeOf, outcome}

pub few_kinds_of : (t : TimedView) (series : Series) → IsTimed t → kinds t series ≤ 8
few_kinds_of t Tasking timed = omega arith
few_kinds_of t Scatter timed = timed.platform.few_targets

-- no operation breaks no rule but the unit's
pub none_kept : (t : TimedView) (series : Series) (s : Schedule) (rule : Rule) → 1 ≤ rank_of rule → Keeps t series (first_ops s 0) rule
none_kept t series s WholeUnit some = absurd (omega (arith, some))
none_kept t series s Order some = λ i j d l m. absurd (omega arith)
none_kept t series s Range some = All-nil (IsInRange t series)
none_kept t series s Late some = All-nil (λ o. end_of t s.ticks_per_unit o ≤ s.length)
none_kept t series s SendPort some = λ node tick. omega arith
none_kept t series s ReceivePort some = λ node tick. omega arith
none_kept t series s ComputePort some = λ node tick. omega arith
none_kept t series s OwnType some = All-nil (KeepsOwn t series)
none_kept t series s Supply some = supplied series
  where
    supplied : (series : Series) → Keeps t series (first_ops s 0) Supply
    supplied Tasking = λ node tick away. omega arith
    supplied Scatter = λ kind node tick exists away. omega arith

pub none_valid : (t : TimedView) (series : Series) (s : Schedule) → 0 < s.ticks_per_unit → s.ticks_per_unit % t.unit ≡ 0 → IsValid t series (first_ops s 0)
none_valid t series s some whole = record {
  well_formed = record {
    some_unit = some;
    whole_unit = whole;
    in_order = none_kept t series s Order (omega arith);
    in_range = none_kept t series s Range (omega arith);
    in_time = none_kept t series s Late (omega arith);
    own_kept = none_kept t series s OwnType (omega arith);
  };
  one_port = record {
    sends = none_kept t series s SendPort (omega arith);
    receives = none_kept t series s ReceivePort (omega arith);
    computes = none_kept t series s ComputePort (omega arith);
  };
  supplied = none_kept t series s Supply (omega arith);
}

-- the test of the unit
pub whole_unit_of : (u unit : ℕ) → (nat_lt 0 u && nat_eq (u % unit) 0) ≡ true → (0 < u) × (u % unit ≡ 0)
whole_unit_of u unit e = (ltb-true 0 u (and_parts _ _ e).0, eqb-true _ _ (and_parts (nat_lt 0 u) _ e).1)

module _ (t : TimedView) (timed : IsTimed t) (series : Series) (s : Schedule) (k : ℕ) (d : Op) (inside : k < length s.ops) (tally : Tally)
    (h : IsTally t series s.ticks_per_unit (take k s.ops) tally) (valid : IsValid t series (first_ops s k)) where
  its_outcome : OutcomeOf t timed series s (few_kinds_of t series timed) (take k s.ops) tally h valid (get_or s.ops k d) (broken_rule t series s.ticks_per_unit s.length tally (get_or s.ops k d))
  its_outcome = outcome t timed series s (few_kinds_of t series timed) (take k s.ops) tally h valid (get_or s.ops k d)

  -- the first breach
  pub operation_breach : (rule : Rule) → broken_rule t series s.ticks_per_unit s.length tally (get_or s.ops k d) ≡ Some rule → IsFirstBreach t series s (record { index = k; rule = rule })
  operation_breach rule e =
      let found = rw e at its_outcome in
      record {
        unit_first = λ is. absurd (no_unit (rw is at found.of_operation));
        kept_before = λ other some. keeps_all t timed series s (first_ops s k) valid other;
        earlier_kept = λ other l. rw (take_more s.ops k d inside) (found.below other l);
        broken = λ kept. found.broken (rw (take_more s.ops k d inside) at kept);
      }
    where
      no_unit : 1 ≤ 0 → ⊥
      no_unit h = omega (arith, h)

  pub one_more_valid : broken_rule t series s.ticks_per_unit s.length tally (get_or s.ops k d) ≡ None → IsValid t series (first_ops s (k + 1))
  one_more_valid e = let found = rw e at its_outcome in rw (take_more s.ops k d inside) found.valid_on

  pub one_more_tallied : broken_rule t series s.ticks_per_unit s.length tally (get_or s.ops k d) ≡ None →
      IsTally t series s.ticks_per_unit (take (k + 1) s.ops) (noted t s.ticks_per_unit tally (get_or s.ops k d))
  one_more_tallied e = let found = rw e at its_outcome in rw (take_more s.ops k d inside) found.tallied

-- counts grow by one at most
more_at : (xs : List ℕ) (i k : ℕ) → slice_index xs i ≤ k → All (λ n. n ≤ k) xs → All (λ n. n ≤ k + 1) (slice_set xs i (slice_index xs i + 1))
more_at xs i k here all = All-set (λ n. n ≤ k + 1) xs i (slice_index xs i + 1) (omega (arith, here)) (λ j d l. let less = all j d l in omega (arith, less))

at_most : (xs : List ℕ) (i k : ℕ) → All (λ n. n ≤ k) xs → slice_index xs i ≤ k
at_most [] i k all = omega arith
at_most (x ∷ xs) zero k all = All-head (λ n. n ≤ k) x xs all
at_most (x ∷ xs) (suc i) k all = at_most xs i k (All-tail (λ n. n ≤ k) x xs all)

looser : (xs : List ℕ) (k : ℕ) → All (λ n. n ≤ k) xs → All (λ n. n ≤ k + 1) xs
looser xs k all j d l = let less = all j d l in omega (arith, less)

pub few_started : (t : TimedView) (u : ℕ) (tally : Tally) (op : Op) (k : ℕ) → All (λ n. n ≤ k) tally.started → All (λ n. n ≤ k + 1) (noted t u tally op).started
few_started t u tally (Send link kind start) k all = more_at tally.started _ k (at_most tally.started _ k all) all
few_started t u tally (Compute node start) k all = more_at tally.started _ k (at_most tally.started _ k all) all

pub few_received : (t : TimedView) (u : ℕ) (tally : Tally) (op : Op) (k : ℕ) → All (λ n. n ≤ k) tally.received → All (λ n. n ≤ k + 1) (noted t u tally op).received
few_received t u tally (Send link kind start) k all = more_at tally.received _ k (at_most tally.received _ k all) all
few_received t u tally (Compute node start) k all = looser tally.received k all

pub few_computed : (t : TimedView) (u : ℕ) (tally : Tally) (op : Op) (k : ℕ) → tally.computed ≤ k → (noted t u tally op).computed ≤ k + 1
few_computed t u tally (Send link kind start) k h = omega (arith, h)
few_computed t u tally (Compute node start) k h = omega (arith, h)

pub zeros : (n : ℕ) → All (λ x. x ≤ 0) (replicate n 0)
zeros n j d l = rw (get_or-replicate {A = ℕ} n j 0 d (rw (length-replicate {A = ℕ} n 0) at l)) (omega arith)

-- what the tally counts is what the schedule completes
counts : (t : TimedView) (s : Schedule) (ops : List Op) (tally : Tally) → IsTimed t → IsTally t Scatter s.ticks_per_unit ops tally → (targets : List ℕ) (kind : ℕ) →
    kind + length targets ≤ length t.platform.targets → All (λ target. target < 32) targets → deliveries_of tally kind targets ≡ deliveries_from t (with_ops s ops) kind targets
counts t s ops tally timed h [] kind few small = refl
counts t s ops tally timed h (target ∷ targets) kind few small =
    rw (
      h.received kind target (omega (arith, few)) (All-head (λ n. n < 32) target targets small),
      counts t s ops tally timed h targets (kind + 1) (omega (arith, few)) (All-tail (λ n. n < 32) target targets small),
    ) refl

pub tallied_is : (t : TimedView) (series : Series) (s : Schedule) (ops : List Op) (tally : Tally) → IsTimed t → IsTally t series s.ticks_per_unit ops tally →
    tallied t series tally ≡ completed t series (with_ops s ops)
tallied_is t Tasking s ops tally timed h = h.computed
tallied_is t Scatter s ops tally timed h =
    ap least (counts t s ops tally timed h t.platform.targets 0 (omega arith) (λ k d l. let there = (timed.platform.targets k d l).exists in let few = timed.platform.few_nodes in omega (arith, there, few)))
