-- What operations take and bring, of one kind at one node, and supply in these words.
use Rattle.std.proofs.Common.{◌≡◌, ℕ, ◌+◌, ◌<◌, Bool, true, false, ◌&&◌, ◌||◌, cond, nat_le, nat_eq, List, [], ◌∷◌, length, count_by, refl, arith}
use Rattle.std.proofs.lemmas.List.Sums.{sum_by-cons}
use Rattle.platform_file.specs.Platform.{is_master}
use Rattle.platform_file.specs.Ticks.{TimedView}
use Rattle.schedule_model.specs.declared.schedule.Op.{Op}
use Rattle.schedule_model.specs.declared.schedule.Op.TheVariants.{Send, Compute}
use Rattle.schedule_model.specs.declared.schedule.Series.{Series}
use Rattle.schedule_model.specs.declared.schedule.Series.TheVariants.{Tasking, Scatter}
use Rattle.schedule_model.specs.declared.schedule.Schedule.{Schedule}
use Rattle.schedule_model.specs.Operations.{start_of, end_of, sends_from, sends_to, computes_at, is_of_kind, has_started, has_ended}
use Rattle.schedule_model.specs.Validity.{IsSupplied}
use Rattle.schedule_model.proofs.PortUse.{count_alike}
use Rattle.schedule_model.proofs.Stocks.{IsStocked}

-- the operation takes a task or message of the kind at the node
abbrev pub takes : TimedView → Series → ℕ → ℕ → Op → Bool
takes t Tasking kind node op = sends_from t node op || computes_at node op
takes t Scatter kind node op = is_of_kind kind op && sends_from t node op

-- the operation brings one there
abbrev pub brings : TimedView → Series → ℕ → ℕ → Op → Bool
brings t Tasking kind node op = sends_to t node op
brings t Scatter kind node op = is_of_kind kind op && sends_to t node op

-- how many kinds there are
abbrev pub kinds : TimedView → Series → ℕ
kinds t Tasking = 1
kinds t Scatter = length t.platform.targets

-- tasks are taken by sends and by computations
both_counts : (t : TimedView) (node tick : ℕ) (ops : List Op) →
    count_by (λ op. (sends_from t node op || computes_at node op) && has_started tick op) ops
    ≡ count_by (λ op. sends_from t node op && has_started tick op) ops + count_by (λ op. computes_at node op && has_started tick op) ops
both_counts t node tick [] = refl
both_counts t node tick (op ∷ ops) =
    sums _ _ _ _ _ _ _ _ _ (sum_by-cons (λ o. cond ((sends_from t node o || computes_at node o) && has_started tick o) 1 0) op ops)
    (sum_by-cons (λ o. cond (sends_from t node o && has_started tick o) 1 0) op ops) (sum_by-cons (λ o. cond (computes_at node o && has_started tick o) 1 0) op ops)
    (both_counts t node tick ops) (one op)
  where
    sums : (a b c x y z p q r : ℕ) → a ≡ x + p → b ≡ y + q → c ≡ z + r → p ≡ q + r → x ≡ y + z → a ≡ b + c
    sums a b c x y z p q r e f g h k = omega arith

    either : (b c : Bool) → cond {A = ℕ} ((b || false) && c) 1 0 ≡ cond (b && c) 1 0 + cond (false && c) 1 0
    either true true = refl
    either true false = refl
    either false c = refl

    one : (op : Op) → cond {A = ℕ} ((sends_from t node op || computes_at node op) && has_started tick op) 1 0
        ≡ cond (sends_from t node op && has_started tick op) 1 0 + cond (computes_at node op && has_started tick op) 1 0
    one (Send link kind start) = either (nat_eq _ node) (nat_le start tick)
    one (Compute at start) = none_more (cond (nat_eq at node && nat_le start tick) 1 0)
      where
        none_more : (n : ℕ) → n ≡ 0 + n
        none_more n = omega arith

joined : (a b c : Bool) → ((a && b) && c) ≡ (a && (b && c))
joined true b c = refl
joined false b c = refl

-- a supplied schedule is stocked, and the other way
pub stocked_of : (t : TimedView) (series : Series) (s : Schedule) → IsSupplied t series s → (kind node : ℕ) → kind < kinds t series → is_master t.platform node ≡ false →
    IsStocked (takes t series kind node) (brings t series kind node) start_of (end_of t s.ticks_per_unit) s.ops
stocked_of t Tasking s supplied kind node exists away tick = rw (both_counts t node tick s.ops) (supplied node tick away)
stocked_of t Scatter s supplied kind node exists away tick =
    rw (
      count_alike (λ op. (is_of_kind kind op && sends_from t node op) && has_started tick op) (λ op. is_of_kind kind op && (sends_from t node op && has_started tick op)) s.ops (λ k d h. joined (is_of_kind kind _) _ _),
      count_alike (λ op. (is_of_kind kind op && sends_to t node op) && has_ended t s.ticks_per_unit tick op) (λ op. is_of_kind kind op && (sends_to t node op && has_ended t s.ticks_per_unit tick op)) s.ops (λ k d h. joined (is_of_kind kind _) _ _),
    )
    (supplied kind node tick exists away)

pub supplied_of : (t : TimedView) (series : Series) (s : Schedule) → ((kind node : ℕ) → kind < kinds t series → is_master t.platform node ≡ false →
    IsStocked (takes t series kind node) (brings t series kind node) start_of (end_of t s.ticks_per_unit) s.ops) → IsSupplied t series s
supplied_of t Tasking s stocked = λ node tick away. rw (← both_counts t node tick s.ops) (stocked 0 node (omega arith) away tick)
supplied_of t Scatter s stocked = λ kind node tick exists away.
    rw (
      ← count_alike (λ op. (is_of_kind kind op && sends_from t node op) && has_started tick op) (λ op. is_of_kind kind op && (sends_from t node op && has_started tick op)) s.ops (λ k d h. joined (is_of_kind kind _) _ _),
      ← count_alike (λ op. (is_of_kind kind op && sends_to t node op) && has_ended t s.ticks_per_unit tick op) (λ op. is_of_kind kind op && (sends_to t node op && has_ended t s.ticks_per_unit tick op)) s.ops (λ k d h. joined (is_of_kind kind _) _ _),
    )
    (stocked kind node exists away tick)
