-- A solution of a scatter, in as many ticks as make its values whole, has amounts of which routes and slots can be made.
use Rattle.std.proofs.Common.{◌≡◌, ℕ, zero, suc, ◌+◌, ◌*◌, ◌%◌, ◌<◌, ◌≤◌, Bool, true, false, ◌&&◌, cond, nat_eq, pos, ◌*ℤ◌, List, length, All, refl, sym, ap, ◌∙◌, subst, arith, inl, inr}
use Rattle.std.proofs.Math.Nat.{mul-le-mul_left, mul-le-mul_right}
use Rattle.std.proofs.lemmas.Bool.{eqb-true, eq-eqb, ne_eqb}
use Rattle.std.proofs.lemmas.List.Elements.{All-nil, All-cons, All-append, All-get_or}
use Rattle.ratio_core.specs.Fraction.{Fraction, whole}
use Rattle.platform_file.specs.Platform.{is_master, IsTarget}
use Rattle.platform_file.specs.Ticks.{TimedView, IsTimed}
use Rattle.schedule_model.specs.Operations.{cost_of, sender_of, receiver_of}
use Rattle.schedule_model.specs.declared.schedule.Series.TheVariants.{Scatter}
use Rattle.linear_program.specs.Programmes.{gain_value}
use Rattle.linear_program.specs.Duality.{IsFeasible}
use Rattle.programme_rows.specs.Listings.{total_below}
use Rattle.programme_rows.specs.LookUps.{value_of}
use Rattle.programme_rows.proofs.Listings.{each_all}
use Rattle.programme_rows.proofs.Totals.{one_of_total, same_total, one_total}
use Rattle.scatter_program.specs.declared.columns.Column.{Column}
use Rattle.scatter_program.specs.declared.columns.Column.TheVariants.{Rate, Flows}
use Rattle.scatter_program.specs.Columns.{target_of, carries, flows_of, flows_below, columns_of}
use Rattle.scatter_program.specs.Programme.{scatter_programme}
use Rattle.scatter_program.specs.Points.{same_column, amounts_of, over_links, AreLookedUp, IsSteady}
use Rattle.series_flows.specs.Flows.{tasks_in, flow_in, use_in}
use Rattle.series_flows.specs.Points.{IsPoint}
use Rattle.series_flows.specs.Amounts.{over, over_kinds, AreAmounts}
use Rattle.series_flows.proofs.Terms.{true_or_false}
use Rattle.series_flows.proofs.Whole.{no_tasks, AreInTicks, values_small, feasible, gains}
use Rattle.series_flows.proofs.Bounds.{lasting, some_cost, unit_of_costs, sender_inside}
use Rattle.series_flows.proofs.LinkTotals.{used_alone, over_each_kind, total_in_ratio}

-- a column's messages in the ticks
abbrev pub messages_of : TimedView → List Fraction → ℕ → Column → ℕ
messages_of t values ticks column = tasks_in ticks (value_of (same_column column) (columns_of t) values)

module _ (t : TimedView) (values : List Fraction) (ticks : ℕ) (looked : AreLookedUp t) where
  abbrev amount : Column → ℕ
  amount column = messages_of t values ticks column

  -- what no plan can use carries nothing
  unused : (kind link : ℕ) → carries t kind link ≡ false → amount (Flows link kind) ≡ 0
  unused kind link e = no_tasks ticks _ (looked.no_flow values link kind e)

  -- the target of a kind uses what all targets get
  uses : (kind node : ℕ) → use_in t Scatter values ticks kind node ≡ cond (nat_eq node (target_of t kind)) (amount Rate) 0
  uses kind node = either (nat_eq node (target_of t kind)) (value_of (same_column Rate) (columns_of t) values)
    where
      either : (b : Bool) (value : Fraction) → tasks_in ticks (cond b value (whole 0)) ≡ cond b (tasks_in ticks value) 0
      either true value = refl
      either false value = no_tasks ticks (whole 0) refl

  are : length values ≡ length (columns_of t) → AreInTicks t Scatter values ticks (amounts_of t amount)
  are one_each j l = ap (tasks_in ticks) (looked.there values j l one_each)

  pub in_programme : IsPoint t Scatter values → All (λ (value : Fraction). ticks % value.den ≡ 0) values → IsFeasible (scatter_programme t) (amounts_of t amount) ticks
  in_programme point whole_ones = feasible t Scatter values ticks point whole_ones (amounts_of t amount) (are point.one_each)

  module _ (timed : IsTimed t) where
    target : (kind : ℕ) → kind < length t.platform.targets → IsTarget t.platform.nodes t.platform.master (target_of t kind)
    target kind k = timed.platform.targets kind 0 k

    -- all nodes together use what one target does
    used : (kind : ℕ) → kind < length t.platform.targets → total_below (length t.platform.nodes) (use_in t Scatter values ticks kind) ≡ amount Rate
    used kind k =
        same_total (length t.platform.nodes) _ (λ node. cond (nat_eq node (target_of t kind)) (amount Rate) 0) (λ node l. uses kind node)
        ∙ one_total (length t.platform.nodes) (target_of t kind) (amount Rate) (target kind k).exists

    pub gain : 1 ≤ length t.platform.targets → (point : IsPoint t Scatter values) → All (λ (value : Fraction). ticks % value.den ≡ 0) values →
        gain_value (scatter_programme t) (amounts_of t amount) ≡ pos (amount Rate) →
        pos point.den *ℤ pos (total_below (length t.platform.nodes) (use_in t Scatter values ticks 0)) ≡ pos ticks *ℤ gain_value (scatter_programme t) point.point
    gain some point whole_ones e =
        ap (λ n. pos point.den *ℤ pos n) (used 0 some) ∙ ap (λ z. pos point.den *ℤ z) (sym e) ∙ gains t Scatter values ticks point whole_ones (amounts_of t amount) (are point.one_each)

    module _ (steady : IsSteady t amount ticks) where
      -- ---- no number exceeds the ticks

      -- what a target gets
      abbrev received : ℕ → ℕ
      received kind = over_links t kind (λ link. nat_eq (receiver_of t link) (target_of t kind)) (λ link. amount (Flows link kind))

      -- in what time it gets them
      abbrev receiving : ℕ → ℕ
      receiving kind = over_links t kind (λ link. nat_eq (receiver_of t link) (target_of t kind)) (λ link. cost_of t link * amount (Flows link kind))

      keeps : (kind : ℕ) → kind < length t.platform.targets → amount Rate ≤ received kind
      keeps kind k =
          let away : is_master t.platform (target_of t kind) ≡ false = ne_eqb (target_of t kind) t.platform.master (target kind k).no_master in
          let same : nat_eq (target_of t kind) (target_of t kind) ≡ true = eq-eqb (target_of t kind) (target_of t kind) refl in
          let kept = rw same at (steady.supplies kind (target_of t kind) k (target kind k).exists away) in
          omega (arith, kept)

      in_time : (kind : ℕ) → kind < length t.platform.targets → receiving kind ≤ ticks
      in_time kind k =
          let one = one_of_total (length t.platform.targets) (λ own. over_links t own (λ link. nat_eq (receiver_of t link) (target_of t kind)) (λ link. cost_of t link * amount (Flows link own))) kind k in
          let all = steady.receivers (target_of t kind) (target kind k).exists in
          omega (arith, one, all)

      -- what is received, by its time
      by_time : (kind a b : ℕ) → ((link : ℕ) → link < length t.platform.links → a ≤ b * cost_of t link) → a * received kind ≤ b * receiving kind
      by_time kind a b h =
          total_in_ratio (length t.platform.links) a b _ _
          (λ link l. either (carries t kind link && nat_eq (receiver_of t link) (target_of t kind)) (cost_of t link) (amount (Flows link kind)) (h link l))
        where
          either : (test : Bool) (cost n : ℕ) → a ≤ b * cost → a * cond test n 0 ≤ b * cond test (cost * n) 0
          either true cost n le = let times : a * n ≤ b * cost * n = mul-le-mul_right n le in omega (arith, times)
          either false cost n le = omega arith

      rate_small : (kind : ℕ) → kind < length t.platform.targets → amount Rate ≤ ticks
      rate_small kind k =
          let most = by_time kind 1 1 (λ link l. (let lasts = some_cost t timed link l in omega (arith, lasts))) in
          omega (arith, most, keeps kind k, in_time kind k)

      rate_slow : (kind : ℕ) → kind < length t.platform.targets → amount Rate * t.unit ≤ 2000000 * ticks
      rate_slow kind k =
          let most = by_time kind t.unit 2000000 (unit_of_costs t timed) in
          joined (amount Rate) (received kind) (receiving kind) (keeps kind k) (in_time kind k) most
        where
          joined : (rate got time : ℕ) → rate ≤ got → time ≤ ticks → t.unit * got ≤ 2000000 * time → rate * t.unit ≤ 2000000 * ticks
          joined rate got time h k m = let more : t.unit * rate ≤ t.unit * got = mul-le-mul_left t.unit h in omega (arith, more, k, m)

      flow_small : (kind link : ℕ) → kind < length t.platform.targets → link < length t.platform.links → carries t kind link ≡ true → amount (Flows link kind) ≤ ticks
      flow_small kind link k l carried =
          let one = one_of_total (length t.platform.links) (λ other. cond (carries t kind other && nat_eq (sender_of t other) (sender_of t link)) (cost_of t other * amount (Flows other kind)) 0) link l in
          let same : nat_eq (sender_of t link) (sender_of t link) ≡ true = eq-eqb (sender_of t link) (sender_of t link) refl in
          let is : cond (carries t kind link && nat_eq (sender_of t link) (sender_of t link)) (cost_of t link * amount (Flows link kind)) 0 ≡ cost_of t link * amount (Flows link kind) = rw (carried, same) refl in
          let of_kind = one_of_total (length t.platform.targets) (λ own. over_links t own (λ other. nat_eq (sender_of t other) (sender_of t link)) (λ other. cost_of t other * amount (Flows other own))) kind k in
          let time = steady.senders (sender_of t link) (sender_inside t timed link l) in
          lasting (cost_of t link) (amount (Flows link kind)) ticks (some_cost t timed link l) (omega (arith, one, is, of_kind, time))

      flows_small : (n : ℕ) → n ≤ length t.platform.targets → All (λ column. amount column ≤ ticks) (flows_below t n)
      flows_small zero few = All-nil (λ column. amount column ≤ ticks)
      flows_small (suc n) few =
          All-append (λ column. amount column ≤ ticks) (flows_below t n) (flows_of t n) (flows_small n (omega arith))
          (each_all (λ column. amount column ≤ ticks) (carries t n) (λ link. Flows link n) (length t.platform.links) (λ link l e. flow_small n link (omega arith) l e))

      pub small : 1 ≤ length t.platform.targets → length values ≡ length (columns_of t) → All (λ (value : Fraction). tasks_in ticks value ≤ ticks) values
      small some one_each =
          values_small t Scatter values ticks (amounts_of t amount) (are one_each) one_each
          (λ j l. All-get_or (λ column. amount column ≤ ticks) (columns_of t) j Rate l
          (All-cons (λ column. amount column ≤ ticks) Rate (flows_below t (length t.platform.targets)) (rate_small 0 some) (flows_small (length t.platform.targets) (omega arith))))

      -- ---- the amounts

      -- a port's time, with what no plan can use
      port : (test : ℕ → Bool) → total_below (length t.platform.targets) (λ kind. over_links t kind test (λ link. cost_of t link * amount (Flows link kind))) ≤ ticks →
          over t test (λ link. cost_of t link * over_kinds (length t.platform.targets) (flow_in t Scatter values ticks) link) ≤ ticks
      port test h =
          subst (λ n. n ≤ ticks)
          (same_total (length t.platform.targets) _ _ (λ kind k. used_alone (length t.platform.links) (carries t kind) test (λ link. cost_of t link * amount (Flows link kind)) (free kind))
          ∙ over_each_kind (length t.platform.targets) (length t.platform.links) test (cost_of t) (flow_in t Scatter values ticks)) h
        where
          nothing : (cost n : ℕ) → n ≡ 0 → cost * n ≡ 0
          nothing cost n e = rw e (omega arith)

          free : (kind link : ℕ) → carries t kind link ≡ false → cost_of t link * amount (Flows link kind) ≡ 0
          free kind link e = nothing (cost_of t link) (amount (Flows link kind)) (unused kind link e)

      supplies : (kind node : ℕ) → kind < length t.platform.targets → node < length t.platform.nodes → is_master t.platform node ≡ false →
          use_in t Scatter values ticks kind node + over t (λ link. nat_eq (sender_of t link) node) (λ link. amount (Flows link kind))
          ≤ over t (λ link. nat_eq (receiver_of t link) node) (λ link. amount (Flows link kind))
      supplies kind node k l away =
          let kept = steady.supplies kind node k l away in
          let out = used_alone (length t.platform.links) (carries t kind) (λ link. nat_eq (sender_of t link) node) (λ link. amount (Flows link kind)) (unused kind) in
          let into = used_alone (length t.platform.links) (carries t kind) (λ link. nat_eq (receiver_of t link) node) (λ link. amount (Flows link kind)) (unused kind) in
          omega (arith, kept, out, into, uses kind node)

      may_use : (kind node : ℕ) → 1 ≤ use_in t Scatter values ticks kind node → node ≡ target_of t kind
      may_use kind node some = elim (true_or_false (nat_eq node (target_of t kind))) [
        | inl same ↦ eqb-true node (target_of t kind) same
        | inr other ↦ absurd (none (uses kind node ∙ rw other refl) some)
      ]
        where
          none : {n : ℕ} → n ≡ 0 → 1 ≤ n → ⊥
          none e h = omega (arith, e, h)

      -- what holds of the rate holds of what a node uses
      bounded : (kind node factor bound : ℕ) → amount Rate * factor ≤ bound → use_in t Scatter values ticks kind node * factor ≤ bound
      bounded kind node factor bound h = rw (uses kind node) (either (nat_eq node (target_of t kind)) (amount Rate) h)
        where
          either : (b : Bool) (n : ℕ) → n * factor ≤ bound → cond b n 0 * factor ≤ bound
          either true n h = h
          either false n h = omega arith

      single : (n : ℕ) → n * 1 ≤ ticks → n ≤ ticks
      single n h = omega (arith, h)

      pub are_amounts : 1 ≤ length t.platform.targets → AreAmounts t Scatter (flow_in t Scatter values ticks) (use_in t Scatter values ticks) ticks
      are_amounts some = record {
        some_kind = some;
        few_kinds = timed.platform.few_targets;
        senders = λ node l. port (λ link. nat_eq (sender_of t link) node) (steady.senders node l);
        receivers = λ node l. port (λ link. nat_eq (receiver_of t link) node) (steady.receivers node l);
        supplies = supplies;
        may_use = λ kind node k l. may_use kind node;
        little = λ kind node k l. single _ (bounded kind node 1 ticks (let small = rate_small kind k in omega (arith, small)));
        slow = λ kind node k l. bounded kind node t.unit (2000000 * ticks) (rate_slow kind k);
        used = λ kind k. used kind k ∙ sym (used 0 some);
      }
