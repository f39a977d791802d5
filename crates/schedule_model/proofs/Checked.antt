-- With one more operation a valid schedule stays valid, or breaks a first rule, as the tally tells.
use Rattle.std.proofs.Common.{◌≡◌, ℕ, zero, suc, ◌+◌, ◌-◌, ◌<◌, ◌≤◌, Bool, true, false, ◌&&◌, nat_lt, List, [], ◌∷◌, ◌++◌, length, get_or, slice_index, All, count_by, refl, sym, ap, ◌∙◌, subst, arith, inl, inr}
use Rattle.std.proofs.lemmas.Bool.{cases_lt, le-ltb}
use Rattle.std.proofs.lemmas.List.{length-append}
use Rattle.std.proofs.lemmas.List.Elements.{All-append, All-cons, All-nil}
use Rattle.std.proofs.lemmas.List.Sorted.{IsNonDecreasingBy-push}
use Rattle.std.proofs.lemmas.List.{get_or_append_left, get_or-append-add}
use Rattle.platform_file.specs.Platform.{is_master}
use Rattle.platform_file.specs.Ticks.{TimedView, IsTimed}
use Rattle.schedule_model.specs.declared.breach.Rule.{Rule}
use Rattle.schedule_model.specs.declared.breach.Rule.TheVariants.{Unit as WholeUnit, Order, Range, Late, SendPort, ReceivePort, ComputePort, OwnType, Supply}
use Rattle.schedule_model.specs.declared.tally.Tally.{Tally}
use Rattle.schedule_model.specs.declared.schedule.Op.{Op}
use Rattle.schedule_model.specs.declared.schedule.Series.{Series}
use Rattle.schedule_model.specs.declared.schedule.Schedule.{Schedule}
use Rattle.schedule_model.specs.Operations.{start_of, end_of, duration_of, sends_to}
use Rattle.schedule_model.specs.Validity.{IsInRange, KeepsOwn, IsValid}
use Rattle.schedule_model.specs.Breaches.{Keeps, rank_of}
use Rattle.schedule_model.specs.Tallies.{place_of}
use Rattle.schedule_model.proofs.Durations.{lasts}
use Rattle.schedule_model.proofs.PortUse.{count_none, unfinished, holds, IsFreeFrom, open_ones, fits_unused, fits_free, fits_not}
use Rattle.schedule_model.proofs.Stocks.{count_fewer, IsStocked, on_the_way, takes_none, takes_one, takes_too_much}
use Rattle.schedule_model.proofs.Moves.{takes, brings, kinds, stocked_of, supplied_of}
use Rattle.schedule_model.proofs.Prefixes.{with_ops}
use Rattle.schedule_model.proofs.Tallied.{IsTally, brings_only}

-- the rule of a rank, so that equal ranks are of one rule
abbrev rule_at : ℕ → Rule
rule_at zero = WholeUnit
rule_at (suc zero) = Order
rule_at (suc (suc zero)) = Range
rule_at (suc (suc (suc zero))) = Late
rule_at (suc (suc (suc (suc zero)))) = SendPort
rule_at (suc (suc (suc (suc (suc zero))))) = ReceivePort
rule_at (suc (suc (suc (suc (suc (suc zero)))))) = ComputePort
rule_at (suc (suc (suc (suc (suc (suc (suc zero))))))) = OwnType
rule_at (suc (suc (suc (suc (suc (suc (suc (suc n)))))))) = Supply

its_rank : (rule : Rule) → rule_at (rank_of rule) ≡ rule
its_rank WholeUnit = refl
its_rank Order = refl
its_rank Range = refl
its_rank Late = refl
its_rank SendPort = refl
its_rank ReceivePort = refl
its_rank ComputePort = refl
its_rank OwnType = refl
its_rank Supply = refl

same_rank : (rule other : Rule) → rank_of rule ≡ rank_of other → rule ≡ other
same_rank rule other e = sym (its_rank rule) ∙ ap rule_at e ∙ its_rank other

last_of : {A : Type 0} (P : A → Type 0) (xs : List A) (x : A) → All P (xs ++ x ∷ []) → P x
last_of P xs x all = rw (get_or-append-add xs (x ∷ []) 0 x) at (all (length xs + 0) x (rw (length-append xs (x ∷ [])) (omega arith)))

pub one_more_all : {A : Type 0} (P : A → Type 0) (xs : List A) (x : A) → All P xs → P x → All P (xs ++ x ∷ [])
one_more_all P xs x all is = All-append P xs (x ∷ []) all (All-cons P x [] is (All-nil P))

module _ (t : TimedView) (timed : IsTimed t) (series : Series) (s : Schedule) (few : kinds t series ≤ 8) (ops : List Op) (tally : Tally)
    (h : IsTally t series s.ticks_per_unit ops tally) (valid : IsValid t series (with_ops s ops)) where
  abbrev u : ℕ
  u = s.ticks_per_unit

  abbrev with_one : Op → Schedule
  with_one op = with_ops s (ops ++ op ∷ [])

  -- the rules up to a rank are kept
  abbrev pub KeptBelow : Op → ℕ → Type 0
  KeptBelow op n = (rule : Rule) → rank_of rule < n → Keeps t series (with_one op) rule

  pub kept_next : (op : Op) (rule : Rule) → KeptBelow op (rank_of rule) → Keeps t series (with_one op) rule → KeptBelow op (suc (rank_of rule))
  kept_next op rule below kept other l =
      elim (cases_lt (rank_of other) (rank_of rule)) [
        | inl less ↦ below other less
        | inr more ↦ subst (λ r. Keeps t series (with_one op) r) (sym (same_rank other rule (omega (arith, l, more)))) kept
      ]

  pub unit_kept : (op : Op) → KeptBelow op 1
  unit_kept op WholeUnit l = (valid.well_formed.some_unit, valid.well_formed.whole_unit)
  unit_kept op Order l = absurd (omega (arith, l))
  unit_kept op Range l = absurd (omega (arith, l))
  unit_kept op Late l = absurd (omega (arith, l))
  unit_kept op SendPort l = absurd (omega (arith, l))
  unit_kept op ReceivePort l = absurd (omega (arith, l))
  unit_kept op ComputePort l = absurd (omega (arith, l))
  unit_kept op OwnType l = absurd (omega (arith, l))
  unit_kept op Supply l = absurd (omega (arith, l))

  -- order
  pub order_kept : (op : Op) → tally.last ≤ start_of op → KeptBelow op 2
  order_kept op order = kept_next op Order (unit_kept op)
      (IsNonDecreasingBy-push start_of ops op valid.well_formed.in_order (λ d some. let last = h.begun (length ops - 1) d (omega (arith, some)) in omega (arith, last, order)))

  pub order_broken : (op : Op) → start_of op < tally.last → Keeps t series (with_one op) Order → ⊥
  order_broken op early order = none _ (h.later (start_of op) early) (no_count ops (λ k d l. before k d l))
    where
      before : (k : ℕ) (d : Op) → k < length ops → start_of (get_or ops k d) ≤ start_of op
      before k d l =
          rw (get_or_append_left ops (op ∷ []) d k l, get_or-append-add ops (op ∷ []) 0 d) at (order k (length ops + 0) d (omega (arith, l)) (rw (length-append ops (op ∷ [])) (omega arith)))

      no_count : (ops : List Op) → All (λ o. start_of o ≤ start_of op) ops → count_by (λ o. nat_lt (start_of op) (start_of o)) ops ≡ 0
      no_count ops all = count_none (λ o. nat_lt (start_of op) (start_of o)) ops (λ k d l. le-ltb (start_of op) _ (all k d l))

      none : (n : ℕ) → 1 ≤ n → n ≡ 0 → ⊥
      none n some e = omega arith

  -- range, time and own kinds, which are each operation's own
  pub range_kept : (op : Op) → tally.last ≤ start_of op → IsInRange t series op → KeptBelow op 3
  range_kept op order range = kept_next op Range (order_kept op order) (one_more_all (IsInRange t series) ops op valid.well_formed.in_range range)

  pub range_broken : (op : Op) → (IsInRange t series op → ⊥) → Keeps t series (with_one op) Range → ⊥
  range_broken op out all = out (last_of (IsInRange t series) ops op all)

  pub late_kept : (op : Op) → tally.last ≤ start_of op → IsInRange t series op → end_of t u op ≤ s.length → KeptBelow op 4
  late_kept op order range in_time = kept_next op Late (range_kept op order range) (one_more_all (λ o. end_of t u o ≤ s.length) ops op valid.well_formed.in_time in_time)

  pub late_broken : (op : Op) → s.length < end_of t u op → Keeps t series (with_one op) Late → ⊥
  late_broken op late all = let in_time = last_of (λ o. end_of t u o ≤ s.length) ops op all in omega (arith, late, in_time)

  pub own_broken : (op : Op) → (KeepsOwn t series op → ⊥) → Keeps t series (with_one op) OwnType → ⊥
  own_broken op sends_own all = sends_own (last_of (KeepsOwn t series) ops op all)

  -- what started before an operation in order
  begun_before : (op : Op) → tally.last ≤ start_of op → All (λ o. start_of o ≤ start_of op) ops
  begun_before op order k d l = let first = h.begun k d l in omega (arith, first, order)

  pub lasts_some : (op : Op) → IsInRange t series op → start_of op < end_of t u op
  lasts_some op range = later (start_of op) (duration_of t u op) (lasts t timed series u valid.well_formed.some_unit valid.well_formed.whole_unit op range)
    where
      later : (a b : ℕ) → 1 ≤ b → a < a + b
      later a b some = omega arith

  -- a port of the nodes: kept where the operation finds it free, or doesn't use it
  module _ (uses : ℕ → Op → Bool) (single : (node tick : ℕ) → count_by (holds (uses node) start_of (end_of t u) tick) ops ≤ 1) (op : Op) (order : tally.last ≤ start_of op) where
    pub port_unused : ((node : ℕ) → uses node op ≡ false) → (node tick : ℕ) → count_by (holds (uses node) start_of (end_of t u) tick) (ops ++ op ∷ []) ≤ 1
    port_unused not_used node tick = fits_unused (uses node) start_of (end_of t u) ops op (begun_before op order) (not_used node) (single node) tick

    pub port_kept : (at free : ℕ) → ((node : ℕ) → uses node op ≡ true → at ≡ node) → free ≤ start_of op → IsFreeFrom (uses at) start_of (end_of t u) ops free →
        (node tick : ℕ) → count_by (holds (uses node) start_of (end_of t u) tick) (ops ++ op ∷ []) ≤ 1
    port_kept at free only is_free f node tick =
        elim (uses node op) as (λ b. uses node op ≡ b → count_by (holds (uses node) start_of (end_of t u) tick) (ops ++ op ∷ []) ≤ 1) [
          | true ↦ λ e. subst (λ n. count_by (holds (uses n) start_of (end_of t u) tick) (ops ++ op ∷ []) ≤ 1) (only node e) (fits_free (uses at) start_of (end_of t u) ops op (begun_before op order) free is_free f (single at) tick)
          | false ↦ λ e. fits_unused (uses node) start_of (end_of t u) ops op (begun_before op order) e (single node) tick
        ] refl

    pub port_broken : (at free : ℕ) → uses at op ≡ true → start_of op < free → IsInRange t series op → IsFreeFrom (uses at) start_of (end_of t u) ops free →
        ((node tick : ℕ) → count_by (holds (uses node) start_of (end_of t u) tick) (ops ++ op ∷ []) ≤ 1) → ⊥
    port_broken at free does busy range f all = fits_not (uses at) start_of (end_of t u) ops op (begun_before op order) free does busy (lasts_some op range) f (all at)

  -- supply: kept where whatever the operation takes at a node but the master has come
  module _ (op : Op) (order : tally.last ≤ start_of op) (range : IsInRange t series op) where
    abbrev pub enough_at : ℕ → ℕ → Type 0
    enough_at kind node =
        count_by (takes t series kind node) ops + on_the_way (takes t series kind node) (brings t series kind node) start_of (end_of t u) (slice_index tally.arrivals (place_of kind node)) (start_of op)
        < count_by (brings t series kind node) ops

    stocked_before : (kind node : ℕ) → kind < kinds t series → is_master t.platform node ≡ false → IsStocked (takes t series kind node) (brings t series kind node) start_of (end_of t u) ops
    stocked_before = stocked_of t series (with_ops s ops) valid.supplied

    one_on_the_way : (kind node : ℕ) → count_by (unfinished (brings t series kind node) start_of (end_of t u) (start_of op)) ops ≤ 1
    one_on_the_way kind node =
        let fewer = count_fewer (unfinished (brings t series kind node) start_of (end_of t u) (start_of op)) (unfinished (sends_to t node) start_of (end_of t u) (start_of op)) ops
        (λ o. each (brings t series kind node o) (sends_to t node o) _ (brings_only t series u kind node o)) in
        let same = open_ones (sends_to t node) start_of (end_of t u) (start_of op) ops (begun_before op order) in
        let single = valid.one_port.receives node (start_of op) in
        no_more _ _ _ fewer same single
      where
        each : (x y z : Bool) → (x ≡ true → y ≡ true) → (x && z) ≡ true → (y && z) ≡ true
        each true y z h e = rw (h refl) e
        each false y z h e = cc

        no_more : (a b c : ℕ) → a ≤ b → c ≡ b → c ≤ 1 → a ≤ 1
        no_more a b c l e m = omega arith

    pub supply_kept : ((kind node : ℕ) → kind < kinds t series → is_master t.platform node ≡ false → takes t series kind node op ≡ true → (node < 32) × enough_at kind node) →
        Keeps t series (with_one op) Supply
    supply_kept enough = supplied_of t series (with_one op) (λ kind node exists away. of_takes kind node exists away (takes t series kind node op) refl)
      where
        of_takes : (kind node : ℕ) → kind < kinds t series → is_master t.platform node ≡ false → (b : Bool) → takes t series kind node op ≡ b →
            IsStocked (takes t series kind node) (brings t series kind node) start_of (end_of t u) (ops ++ op ∷ [])
        of_takes kind node exists away true does =
            let found = enough kind node exists away does in
            takes_one (takes t series kind node) (brings t series kind node) start_of (end_of t u) ops op (slice_index tally.arrivals (place_of kind node)) (begun_before op order)
            (h.arrivals kind node exists found.0) (one_on_the_way kind node) found.1 (stocked_before kind node exists away)
        of_takes kind node exists away false doesnt =
            takes_none (takes t series kind node) (brings t series kind node) start_of (end_of t u) ops op (slice_index tally.arrivals (place_of kind node)) (begun_before op order)
            doesnt (stocked_before kind node exists away)

    pub supply_broken : (kind node : ℕ) → kind < kinds t series → is_master t.platform node ≡ false → takes t series kind node op ≡ true → node < 32 → (enough_at kind node → ⊥) →
        Keeps t series (with_one op) Supply → ⊥
    supply_broken kind node exists away does small lacking supplied =
        takes_too_much (takes t series kind node) (brings t series kind node) start_of (end_of t u) ops op (slice_index tally.arrivals (place_of kind node)) (begun_before op order)
        does (lasts_some op range) (h.arrivals kind node exists small) lacking (stocked_of t series (with_one op) supplied kind node exists away)
