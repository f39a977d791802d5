-- The first operations of a valid schedule are a valid schedule, so that a schedule with a first breach isn't valid.
use Rattle.std.proofs.Common.{◌≡◌, ℕ, ◌+◌, ◌<◌, ◌≤◌, ◌&&◌, Bool, List, [], ◌∷◌, ◌++◌, length, get_or, take, drop, All, count_by, cond, arith}
use Rattle.std.specs.List.Sorted.{IsNonDecreasingBy}
use Rattle.std.proofs.lemmas.List.{get_or_append_left, get_or-append-add, length-append, take-append-drop, append-nil}
use Rattle.std.proofs.lemmas.List.Sums.{sum_by-append}
use Rattle.platform_file.specs.Ticks.{TimedView, IsTimed}
use Rattle.schedule_model.specs.declared.breach.Rule.{Rule}
use Rattle.schedule_model.specs.declared.breach.Rule.TheVariants.{Unit as WholeUnit, Order, Range, Late, SendPort, ReceivePort, ComputePort, OwnType, Supply}
use Rattle.schedule_model.specs.declared.breach.Breach.{Breach}
use Rattle.schedule_model.specs.declared.schedule.Op.{Op}
use Rattle.schedule_model.specs.declared.schedule.Series.{Series}
use Rattle.schedule_model.specs.declared.schedule.Schedule.{Schedule}
use Rattle.schedule_model.specs.Operations.{start_of, end_of, duration_of, sends_from, sends_to, computes_at, is_open}
use Rattle.schedule_model.specs.Validity.{IsInRange, KeepsOwn, IsSupplied, IsValid}
use Rattle.schedule_model.specs.Breaches.{Keeps, first_ops, IsFirstBreach}
use Rattle.schedule_model.proofs.Durations.{each_lasts}
use Rattle.schedule_model.proofs.Stocks.{front_stocked}
use Rattle.schedule_model.proofs.Moves.{stocked_of, supplied_of, takes, brings}

module _ {A : Type 0} (xs ys : List A) where
  longer : (k : ℕ) → k < length xs → k < length (xs ++ ys)
  longer k h = rw (length-append xs ys) (omega (arith, h))

  pub front_all : (P : A → Type 0) → All P (xs ++ ys) → All P xs
  front_all P all k d h = rw (get_or_append_left xs ys d k h) at (all k d (longer k h))

  back_all : (P : A → Type 0) → All P (xs ++ ys) → All P ys
  back_all P all k d h = rw (get_or-append-add xs ys k d) at (all (length xs + k) d (rw (length-append xs ys) (omega (arith, h))))

  front_count : (p : A → Bool) (most : ℕ) → count_by p (xs ++ ys) ≤ most → count_by p xs ≤ most
  front_count p most h = fewer _ _ _ (sum_by-append (λ o. cond (p o) 1 0) xs ys) h
    where
      fewer : (a b c : ℕ) → a ≡ b + c → a ≤ most → b ≤ most
      fewer a b c e h = omega arith

  front_in_order : (n : A → ℕ) → IsNonDecreasingBy n (xs ++ ys) → IsNonDecreasingBy n xs
  front_in_order n order i j d l m = rw (get_or_append_left xs ys d i (omega (arith, l, m)), get_or_append_left xs ys d j m) at (order i j d l (longer j m))

  no_earlier : (n : A → ℕ) → IsNonDecreasingBy n (xs ++ ys) → (d : A) (j : ℕ) → j < length ys → n (get_or ys 0 d) ≤ n (get_or ys j d)
  no_earlier n order d j m =
      rw (get_or-append-add xs ys 0 d, get_or-append-add xs ys j d) at (order (length xs + 0) (length xs + j) d (omega arith) (rw (length-append xs ys) (omega (arith, m))))

  no_later : (n : A → ℕ) → IsNonDecreasingBy n (xs ++ ys) → (d : A) (i j : ℕ) → i < length xs → j < length ys → n (get_or xs i d) ≤ n (get_or ys j d)
  no_later n order d i j l m =
      rw (get_or_append_left xs ys d i l, get_or-append-add xs ys j d) at (order i (length xs + j) d (omega (arith, l)) (rw (length-append xs ys) (omega (arith, m))))

-- the schedule of other operations
abbrev pub with_ops : Schedule → List Op → Schedule
with_ops s ops = record { ticks_per_unit = s.ticks_per_unit; length = s.length; ops = ops }

module _ (t : TimedView) (timed : IsTimed t) (series : Series) (s : Schedule) where
  front_supplied : (xs ys : List Op) → IsValid t series (with_ops s (xs ++ ys)) → IsSupplied t series (with_ops s xs)
  front_supplied xs [] valid = rw (append-nil xs) at valid.supplied
  front_supplied xs (op ∷ ys) valid = supplied_of t series (with_ops s xs) (λ kind node exists away.
      front_stocked (takes t series kind node) (brings t series kind node) start_of (end_of t s.ticks_per_unit) xs (op ∷ ys) (start_of op)
      (λ k d h. no_later xs (op ∷ ys) start_of valid.well_formed.in_order d k 0 h (omega arith))
      (λ k d h. over_later _ _ _ (no_earlier xs (op ∷ ys) start_of valid.well_formed.in_order d k h) (back_all xs (op ∷ ys) (λ o. 1 ≤ duration_of t s.ticks_per_unit o) (each_lasts t timed series (with_ops s (xs ++ op ∷ ys)) valid.well_formed) k d h))
      (stocked_of t series (with_ops s (xs ++ op ∷ ys)) valid.supplied kind node exists away))
    where
      over_later : (a b c : ℕ) → a ≤ b → 1 ≤ c → a < b + c
      over_later a b c h k = omega arith

  front_valid : (xs ys : List Op) → IsValid t series (with_ops s (xs ++ ys)) → IsValid t series (with_ops s xs)
  front_valid xs ys valid = record {
    well_formed = record {
      some_unit = valid.well_formed.some_unit;
      whole_unit = valid.well_formed.whole_unit;
      in_order = front_in_order xs ys start_of valid.well_formed.in_order;
      in_range = front_all xs ys (IsInRange t series) valid.well_formed.in_range;
      in_time = front_all xs ys (λ o. end_of t s.ticks_per_unit o ≤ s.length) valid.well_formed.in_time;
      own_kept = front_all xs ys (KeepsOwn t series) valid.well_formed.own_kept;
    };
    one_port = record {
      sends = λ node tick. front_count xs ys (λ o. sends_from t node o && is_open t s.ticks_per_unit tick o) 1 (valid.one_port.sends node tick);
      receives = λ node tick. front_count xs ys (λ o. sends_to t node o && is_open t s.ticks_per_unit tick o) 1 (valid.one_port.receives node tick);
      computes = λ node tick. front_count xs ys (λ o. computes_at node o && is_open t s.ticks_per_unit tick o) 1 (valid.one_port.computes node tick);
    };
    supplied = front_supplied xs ys valid;
  }

  prefix_valid : (k : ℕ) → IsValid t series s → IsValid t series (first_ops s k)
  prefix_valid k valid = front_valid (take k s.ops) (drop k s.ops) (rw (take-append-drop k s.ops) valid)

  -- a valid schedule keeps each rule
  pub keeps_all : (s : Schedule) → IsValid t series s → (rule : Rule) → Keeps t series s rule
  keeps_all s valid WholeUnit = (valid.well_formed.some_unit, valid.well_formed.whole_unit)
  keeps_all s valid Order = valid.well_formed.in_order
  keeps_all s valid Range = valid.well_formed.in_range
  keeps_all s valid Late = valid.well_formed.in_time
  keeps_all s valid SendPort = valid.one_port.sends
  keeps_all s valid ReceivePort = valid.one_port.receives
  keeps_all s valid ComputePort = valid.one_port.computes
  keeps_all s valid OwnType = valid.well_formed.own_kept
  keeps_all s valid Supply = valid.supplied

  pub not_valid : (breach : Breach) → IsFirstBreach t series s breach → IsValid t series s → ⊥
  not_valid breach first valid = first.broken (keeps_all (first_ops s (breach.index + 1)) (prefix_valid (breach.index + 1) valid) breach.rule)
