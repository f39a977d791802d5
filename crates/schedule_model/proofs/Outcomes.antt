-- What the first broken rule of a tally means for the schedule: none, and it stays valid, or the first that one more operation breaks.
use Rattle.std.proofs.Common.{◌≡◌, ℕ, zero, suc, ◌+◌, ◌<◌, ◌≤◌, ◌≢◌, Bool, true, false, not, ◌&&◌, cond, nat_lt, nat_eq, List, [], ◌∷◌, ◌++◌, length, get_or, slice_get, slice_index, Option, Some, None, IsSome, IfSome, All, count_by, refl, sym, ap, ◌∙◌, arith, inl, inr}
use Rattle.std.proofs.lemmas.Bool.{and_parts, cases_lt, ltb-true, ltb-false, eqb-true, eqb-false, eq-eqb, lt-ltb}
use Rattle.std.proofs.lemmas.List.{length-map}
use Rattle.std.proofs.Math.ListN.{get_or-eq_default}
use Rattle.platform_file.specs.Platform.{is_master}
use Rattle.platform_file.specs.Ticks.{TimedView, IsTimed}
use Rattle.schedule_model.specs.declared.breach.Rule.{Rule}
use Rattle.schedule_model.specs.declared.breach.Rule.TheVariants.{Unit as WholeUnit, Order, Range, Late, SendPort, ReceivePort, ComputePort, OwnType, Supply}
use Rattle.schedule_model.specs.declared.tally.Tally.{Tally}
use Rattle.schedule_model.specs.declared.schedule.Op.{Op}
use Rattle.schedule_model.specs.declared.schedule.Op.TheVariants.{Send, Compute}
use Rattle.schedule_model.specs.declared.schedule.Series.{Series}
use Rattle.schedule_model.specs.declared.schedule.Series.TheVariants.{Tasking, Scatter}
use Rattle.schedule_model.specs.declared.schedule.Schedule.{Schedule}
use Rattle.schedule_model.specs.Operations.{start_of, end_of, sender_of, receiver_of, no_link, sends_from, sends_to, computes_at}
use Rattle.schedule_model.specs.Validity.{IsInRange, KeepsOwn, IsValid}
use Rattle.schedule_model.specs.Breaches.{Keeps, rank_of}
use Rattle.schedule_model.specs.Tallies.{is_in_range, sends_own, place_of, lacks, broken_supply, broken_use, broken_rule, noted}
use Rattle.schedule_model.proofs.Moves.{takes, brings, kinds}
use Rattle.schedule_model.proofs.Prefixes.{with_ops}
use Rattle.schedule_model.proofs.Tallied.{IsTally, takes_send, takes_compute, send_noted, compute_noted}
use Rattle.schedule_model.proofs.Checked.{one_more_all, lasts_some, KeptBelow, kept_next, unit_kept, order_kept, order_broken, range_kept, range_broken, late_kept, late_broken, own_broken, port_unused, port_kept, port_broken, supply_kept, supply_broken}

both_of : (a b : Bool) → (a && b) ≡ false → a ≡ true → b ≡ true → ⊥
both_of true true h e f = cc
both_of true false h e f = cc
both_of false b h e f = cc

of_not : (b : Bool) → not b ≡ true → b ≡ false
of_not true h = cc
of_not false h = refl

-- the test of range decides it
in_range_of : (t : TimedView) (series : Series) (op : Op) → is_in_range t series op ≡ true → IsInRange t series op
in_range_of t Tasking (Send link kind start) e = (ltb-true _ _ (and_parts _ _ e).0, eqb-true _ _ (and_parts (nat_lt link (length t.platform.links)) _ e).1)
in_range_of t Tasking (Compute node start) e = e
in_range_of t Scatter (Send link kind start) e = (ltb-true _ _ (and_parts _ _ e).0, ltb-true _ _ (and_parts (nat_lt link (length t.platform.links)) _ e).1)
in_range_of t Scatter (Compute node start) e = cc

not_in_range_of : (t : TimedView) (series : Series) (op : Op) → is_in_range t series op ≡ false → IsInRange t series op → ⊥
not_in_range_of t Tasking (Send link kind start) e range = both_of _ _ e (lt-ltb _ _ range.0) (eq-eqb _ _ range.1)
not_in_range_of t Tasking (Compute node start) e range = let bad : false ≡ true = sym e ∙ range in cc
not_in_range_of t Scatter (Send link kind start) e range = both_of _ _ e (lt-ltb _ _ range.0) (lt-ltb _ _ range.1)
not_in_range_of t Scatter (Compute node start) e range = absurd range

link_exists : (t : TimedView) (series : Series) (link kind start : ℕ) → IsInRange t series (Send link kind start) → link < length t.platform.links
link_exists t Tasking link kind start range = range.0
link_exists t Scatter link kind start range = range.0

kind_exists : (t : TimedView) (series : Series) (link kind start : ℕ) → IsInRange t series (Send link kind start) → kind < kinds t series
kind_exists t Tasking link kind start range = let none = range.1 in omega (arith, none)
kind_exists t Scatter link kind start range = range.1

computes_in : (t : TimedView) (series : Series) (node start : ℕ) → IsInRange t series (Compute node start) → series ≡ Tasking
computes_in t Tasking node start range = refl
computes_in t Scatter node start range = absurd range

-- the test of own kinds decides them
if_got : (P : ℕ → Type 0) (xs : List ℕ) (i : ℕ) → P (slice_index xs i) → IfSome (slice_get xs i) P
if_got P [] i h = tt
if_got P (x ∷ xs) zero h = h
if_got P (x ∷ xs) (suc i) h = if_got P xs i h

got_if : (P : ℕ → Type 0) (xs : List ℕ) (i : ℕ) → i < length xs → IfSome (slice_get xs i) P → P (slice_index xs i)
got_if P [] i l h = absurd (omega arith)
got_if P (x ∷ xs) zero l h = h
got_if P (x ∷ xs) (suc i) l h = got_if P xs i (omega arith) h

own_kept_of : (t : TimedView) (series : Series) (link kind start : ℕ) → sends_own t series kind (sender_of t link) ≡ false → KeepsOwn t series (Send link kind start)
own_kept_of t Tasking link kind start e = tt
own_kept_of t Scatter link kind start e = if_got (λ target. sender_of t link ≢ target) t.platform.targets kind (λ same. eqb-false _ _ e (sym same))

not_own_kept_of : (t : TimedView) (series : Series) (link kind start : ℕ) → IsInRange t series (Send link kind start) → sends_own t series kind (sender_of t link) ≡ true →
    KeepsOwn t series (Send link kind start) → ⊥
not_own_kept_of t Tasking link kind start range e kept = cc
not_own_kept_of t Scatter link kind start range e kept = got_if (λ target. sender_of t link ≢ target) t.platform.targets kind range.1 kept (sym (eqb-true _ _ e))

own_of_compute : (t : TimedView) (series : Series) (node start : ℕ) → KeepsOwn t series (Compute node start)
own_of_compute t Tasking node start = tt
own_of_compute t Scatter node start = tt

module _ (t : TimedView) (timed : IsTimed t) (series : Series) (s : Schedule) (few : kinds t series ≤ 8) (ops : List Op) (tally : Tally)
    (h : IsTally t series s.ticks_per_unit ops tally) (valid : IsValid t series (with_ops s ops)) where
  abbrev u : ℕ
  u = s.ticks_per_unit

  pub record IsAdmitted (op : Op) : Type 0 where
    pub valid_on : IsValid t series (with_ops s (ops ++ op ∷ []))
    pub tallied : IsTally t series u (ops ++ op ∷ []) (noted t u tally op)

  pub record IsBroken (op : Op) (rule : Rule) : Type 0 where
    pub of_operation : 1 ≤ rank_of rule
    pub below : (other : Rule) → rank_of other < rank_of rule → Keeps t series (with_ops s (ops ++ op ∷ [])) other
    pub broken : Keeps t series (with_ops s (ops ++ op ∷ [])) rule → ⊥

  abbrev pub OutcomeOf : Op → Option Rule → Type 0
  OutcomeOf op None = IsAdmitted op
  OutcomeOf op (Some rule) = IsBroken op rule

  valid_of : (op : Op) → KeptBelow t timed series s few ops tally h valid op 9 → IsValid t series (with_ops s (ops ++ op ∷ []))
  valid_of op kept = record {
    well_formed = record {
      some_unit = (kept WholeUnit (omega arith)).0;
      whole_unit = (kept WholeUnit (omega arith)).1;
      in_order = kept Order (omega arith);
      in_range = kept Range (omega arith);
      in_time = kept Late (omega arith);
      own_kept = kept OwnType (omega arith);
    };
    one_port = record { sends = kept SendPort (omega arith); receives = kept ReceivePort (omega arith); computes = kept ComputePort (omega arith) };
    supplied = kept Supply (omega arith);
  }

  itself : (n : ℕ) → nat_eq n n ≡ true
  itself n = eq-eqb n n refl

  small : (node : ℕ) → node < length t.platform.nodes → node < 32
  small node l = let few_nodes = timed.platform.few_nodes in omega (arith, l, few_nodes)

  own_all : (op : Op) → KeepsOwn t series op → All (KeepsOwn t series) (ops ++ op ∷ [])
  own_all op kept = one_more_all (KeepsOwn t series) ops op valid.well_formed.own_kept kept

  -- a node that computes exists
  computing_exists : (node start : ℕ) → IsInRange t series (Compute node start) → node < length t.platform.nodes
  computing_exists node start range =
      let there : IsSome (get_or t.times node None) = rw (computes_in t series node start range) at range in
      elim (cases_lt node (length t.times)) [
        | inl inside ↦ rw (ap length timed.times ∙ length-map t.platform.nodes _) at inside
        | inr past ↦ let bad : false ≡ true = rw (get_or-eq_default t.times None past) at there in cc
      ]

  -- the tally's test of supply
  enough_of : (kind node start : ℕ) → kind < kinds t series → node < 32 → lacks tally (place_of kind node) start ≡ false →
      count_by (takes t series kind node) ops + cond (nat_lt start (slice_index tally.arrivals (place_of kind node))) 1 0 < count_by (brings t series kind node) ops
  enough_of kind node start exists l e =
      rw (h.started kind node exists l, h.received kind node exists l) at (ltb-true _ _ (of_not_false _ e))
    where
      of_not_false : (b : Bool) → not b ≡ false → b ≡ true
      of_not_false true e = refl
      of_not_false false e = cc

  lacking_of : (kind node start : ℕ) → kind < kinds t series → node < 32 → lacks tally (place_of kind node) start ≡ true →
      count_by (takes t series kind node) ops + cond (nat_lt start (slice_index tally.arrivals (place_of kind node))) 1 0 < count_by (brings t series kind node) ops → ⊥
  lacking_of kind node start exists l e enough =
      let test = rw (h.started kind node exists l, h.received kind node exists l) at (ltb-false _ _ (of_not _ e)) in
      omega (arith, test, enough)

  -- supply is tried last
  supply_outcome : (op : Op) (kind node start : ℕ) → start_of op ≡ start → tally.last ≤ start_of op → IsInRange t series op → kind < kinds t series → node < 32 →
      ((kind' node' : ℕ) → kind' < kinds t series → takes t series kind' node' op ≡ true → (kind ≡ kind') × (node ≡ node')) → takes t series kind node op ≡ true →
      KeptBelow t timed series s few ops tally h valid op 8 → IsTally t series u (ops ++ op ∷ []) (noted t u tally op) →
      OutcomeOf op (broken_supply t tally kind node start)
  supply_outcome op kind node start is order range exists l only does below tallied =
      elim (not (is_master t.platform node) && lacks tally (place_of kind node) start)
      as (λ b. (not (is_master t.platform node) && lacks tally (place_of kind node) start) ≡ b → OutcomeOf op (cond b (Some Supply) None)) [
        | true ↦ λ e. record {
          of_operation = omega arith;
          below = below;
          broken = supply_broken t timed series s few ops tally h valid op order range kind node exists (of_not _ (and_parts _ _ e).0) does l
              (rw (← is) at (lacking_of kind node start exists l (and_parts (not (is_master t.platform node)) _ e).1));
        }
        | false ↦ λ e. record {
          valid_on = valid_of op (kept_next t timed series s few ops tally h valid op Supply below (supply_kept t timed series s few ops tally h valid op order range (λ kind' node' exists' away takes_it.
              let same = only kind' node' exists' takes_it in
              rw (← same.0, ← same.1) (l, rw (← is) at (enough_of kind node start exists l (not_lacking e (rw (← same.1) at away)))))));
          tallied = tallied;
        }
      ] refl
    where
      not_lacking : (not (is_master t.platform node) && lacks tally (place_of kind node) start) ≡ false → is_master t.platform node ≡ false → lacks tally (place_of kind node) start ≡ false
      not_lacking e away = rw away at e

  send_outcome : (link kind start : ℕ) → tally.last ≤ start → IsInRange t series (Send link kind start) → end_of t u (Send link kind start) ≤ s.length →
      OutcomeOf (Send link kind start) (broken_use t series tally (Send link kind start))
  send_outcome link kind start order range in_time =
      let op = Send link kind start in
      let joins = timed.platform.links link no_link (link_exists t series link kind start range) in
      let from = small (sender_of t link) joins.leaves in
      let to = small (receiver_of t link) joins.enters in
      let exists = kind_exists t series link kind start range in
      let below = late_kept t timed series s few ops tally h valid op order range in_time in
      let lasts = lasts_some t timed series s few ops tally h valid op range in
      elim (nat_lt start (slice_index tally.sends (sender_of t link))) as (λ b. nat_lt start (slice_index tally.sends (sender_of t link)) ≡ b →
      OutcomeOf op (cond b (Some SendPort) (cond (nat_lt start (slice_index tally.receives (receiver_of t link))) (Some ReceivePort)
      (cond (sends_own t series kind (sender_of t link)) (Some OwnType) (broken_supply t tally kind (sender_of t link) start))))) [
        | true ↦ λ e. record {
          of_operation = omega arith;
          below = below;
          broken = port_broken t timed series s few ops tally h valid (sends_from t) valid.one_port.sends op order (sender_of t link) _ (itself (sender_of t link)) (ltb-true _ _ e) range (h.sends (sender_of t link) from);
        }
        | false ↦ λ e.
            let free = ltb-false start (slice_index tally.sends (sender_of t link)) e in
            let below5 = kept_next t timed series s few ops tally h valid op SendPort below
            (port_kept t timed series s few ops tally h valid (sends_from t) valid.one_port.sends op order (sender_of t link) _ (λ node f. eqb-true _ _ f) free (h.sends (sender_of t link) from)) in
            elim (nat_lt start (slice_index tally.receives (receiver_of t link))) as (λ b. nat_lt start (slice_index tally.receives (receiver_of t link)) ≡ b →
            OutcomeOf op (cond b (Some ReceivePort) (cond (sends_own t series kind (sender_of t link)) (Some OwnType) (broken_supply t tally kind (sender_of t link) start)))) [
              | true ↦ λ f. record {
                of_operation = omega arith;
                below = below5;
                broken = port_broken t timed series s few ops tally h valid (sends_to t) valid.one_port.receives op order (receiver_of t link) _ (itself (receiver_of t link)) (ltb-true _ _ f) range (h.receives (receiver_of t link) to);
              }
              | false ↦ λ f.
                  let free_too = ltb-false start (slice_index tally.receives (receiver_of t link)) f in
                  let below6 = kept_next t timed series s few ops tally h valid op ReceivePort below5
                  (port_kept t timed series s few ops tally h valid (sends_to t) valid.one_port.receives op order (receiver_of t link) _ (λ node g. eqb-true _ _ g) free_too (h.receives (receiver_of t link) to)) in
                  let below7 = kept_next t timed series s few ops tally h valid op ComputePort below6 (port_unused t timed series s few ops tally h valid computes_at valid.one_port.computes op order (λ node. refl)) in
                  elim (sends_own t series kind (sender_of t link)) as (λ b. sends_own t series kind (sender_of t link) ≡ b → OutcomeOf op (cond b (Some OwnType) (broken_supply t tally kind (sender_of t link) start))) [
                    | true ↦ λ g. record {
                      of_operation = omega arith;
                      below = below7;
                      broken = own_broken t timed series s few ops tally h valid op (not_own_kept_of t series link kind start range g);
                    }
                    | false ↦ λ g.
                        supply_outcome op kind (sender_of t link) start refl order range exists from
                        (λ kind' node' exists' takes_it.
                        let both = sym (takes_send t series u link kind start kind' node' exists exists') ∙ takes_it in
                        (eqb-true _ _ (and_parts _ _ both).0, eqb-true _ _ (and_parts (nat_eq kind kind') _ both).1))
                        (takes_send t series u link kind start kind (sender_of t link) exists exists ∙ rw (itself kind, itself (sender_of t link)) refl)
                        (kept_next t timed series s few ops tally h valid op OwnType below7 (own_all op (own_kept_of t series link kind start g)))
                        (send_noted t series u few ops tally h link kind start order exists from to (ends_after free lasts) (ends_after free_too lasts))
                  ] refl
            ] refl
      ] refl
    where
      ends_after : {a b c : ℕ} → a ≤ b → b < c → a ≤ c
      ends_after l m = omega (arith, l, m)

  compute_outcome : (node start : ℕ) → tally.last ≤ start → IsInRange t series (Compute node start) → end_of t u (Compute node start) ≤ s.length →
      OutcomeOf (Compute node start) (broken_use t series tally (Compute node start))
  compute_outcome node start order range in_time =
      let op = Compute node start in
      let tasking = computes_in t series node start range in
      let at = small node (computing_exists node start range) in
      let below = late_kept t timed series s few ops tally h valid op order range in_time in
      let lasts = lasts_some t timed series s few ops tally h valid op range in
      let below5 = kept_next t timed series s few ops tally h valid op SendPort below (port_unused t timed series s few ops tally h valid (sends_from t) valid.one_port.sends op order (λ other. refl)) in
      let below6 = kept_next t timed series s few ops tally h valid op ReceivePort below5 (port_unused t timed series s few ops tally h valid (sends_to t) valid.one_port.receives op order (λ other. refl)) in
      elim (nat_lt start (slice_index tally.computes node)) as (λ b. nat_lt start (slice_index tally.computes node) ≡ b → OutcomeOf op (cond b (Some ComputePort) (broken_supply t tally 0 node start))) [
        | true ↦ λ e. record {
          of_operation = omega arith;
          below = below6;
          broken = port_broken t timed series s few ops tally h valid computes_at valid.one_port.computes op order node _ (itself node) (ltb-true _ _ e) range (h.computes node at);
        }
        | false ↦ λ e.
            let free = ltb-false start (slice_index tally.computes node) e in
            let below7 = kept_next t timed series s few ops tally h valid op ComputePort below6
            (port_kept t timed series s few ops tally h valid computes_at valid.one_port.computes op order node _ (λ other f. eqb-true _ _ f) free (h.computes node at)) in
            let exists : 0 < kinds t series = rw tasking (omega arith) in
            supply_outcome op 0 node start refl order range exists at
            (λ kind' node' exists' takes_it.
            let both = sym (takes_compute t series u node start kind' node' tasking exists') ∙ takes_it in
            (eqb-true _ _ (and_parts _ _ both).0, eqb-true _ _ (and_parts (nat_eq 0 kind') _ both).1))
            (takes_compute t series u node start 0 node tasking exists ∙ rw (itself node) refl)
            (kept_next t timed series s few ops tally h valid op OwnType below7 (own_all op (own_of_compute t series node start)))
            (compute_noted t series u few ops tally h node start tasking order at (ends_after free lasts))
      ] refl
    where
      ends_after : {a b c : ℕ} → a ≤ b → b < c → a ≤ c
      ends_after l m = omega (arith, l, m)

  use_outcome : (op : Op) → tally.last ≤ start_of op → IsInRange t series op → end_of t u op ≤ s.length → OutcomeOf op (broken_use t series tally op)
  use_outcome (Send link kind start) order range in_time = send_outcome link kind start order range in_time
  use_outcome (Compute node start) order range in_time = compute_outcome node start order range in_time

  -- the rules in their order
  pub outcome : (op : Op) → OutcomeOf op (broken_rule t series u s.length tally op)
  outcome op =
      elim (nat_lt (start_of op) tally.last) as (λ b. nat_lt (start_of op) tally.last ≡ b → OutcomeOf op (cond b (Some Order)
      (cond (not (is_in_range t series op)) (Some Range) (cond (nat_lt s.length (end_of t u op)) (Some Late) (broken_use t series tally op))))) [
        | true ↦ λ e. record {
          of_operation = omega arith;
          below = unit_kept t timed series s few ops tally h valid op;
          broken = order_broken t timed series s few ops tally h valid op (ltb-true _ _ e);
        }
        | false ↦ λ e.
            let order = ltb-false (start_of op) tally.last e in
            elim (is_in_range t series op) as (λ b. is_in_range t series op ≡ b → OutcomeOf op (cond (not b) (Some Range) (cond (nat_lt s.length (end_of t u op)) (Some Late) (broken_use t series tally op)))) [
              | false ↦ λ f. record {
                of_operation = omega arith;
                below = order_kept t timed series s few ops tally h valid op order;
                broken = range_broken t timed series s few ops tally h valid op (not_in_range_of t series op f);
              }
              | true ↦ λ f.
                  let range = in_range_of t series op f in
                  elim (nat_lt s.length (end_of t u op)) as (λ b. nat_lt s.length (end_of t u op) ≡ b → OutcomeOf op (cond b (Some Late) (broken_use t series tally op))) [
                    | true ↦ λ g. record {
                      of_operation = omega arith;
                      below = range_kept t timed series s few ops tally h valid op order range;
                      broken = late_broken t timed series s few ops tally h valid op (ltb-true _ _ g);
                    }
                    | false ↦ λ g. use_outcome op order range (ltb-false s.length (end_of t u op) g)
                  ] refl
            ] refl
      ] refl
