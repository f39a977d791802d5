-- A solution of tasking, in as many ticks as make its values whole, has amounts of which routes and slots can be made.
use Rattle.std.proofs.Common.{◌≡◌, ℕ, ◌+◌, ◌*◌, ◌%◌, ◌<◌, ◌≤◌, Bool, true, false, ◌&&◌, cond, nat_eq, pos, ◌*ℤ◌, List, length, All, refl, sym, ap, ◌∙◌, subst, arith, inl, inr}
use Rattle.std.proofs.lemmas.Bool.Decides.{nat_tests}
use Rattle.std.proofs.lemmas.List.Elements.{All-append, All-get_or}
use Rattle.ratio_core.specs.Fraction.{Fraction}
use Rattle.platform_file.specs.Platform.{is_master}
use Rattle.platform_file.specs.Ticks.{TimedView, IsTimed}
use Rattle.schedule_model.specs.Operations.{cost_of, time_of, sender_of, receiver_of}
use Rattle.schedule_model.specs.declared.schedule.Series.TheVariants.{Tasking}
use Rattle.linear_program.specs.Programmes.{gain_value}
use Rattle.linear_program.specs.Duality.{IsFeasible}
use Rattle.programme_rows.specs.Listings.{total_below}
use Rattle.programme_rows.specs.LookUps.{value_of}
use Rattle.programme_rows.proofs.Listings.{each_all}
use Rattle.programme_rows.proofs.Totals.{one_of_total, same_total}
use Rattle.tasking_program.specs.declared.columns.Column.{Column}
use Rattle.tasking_program.specs.declared.columns.Column.TheVariants.{Computes, Flows}
use Rattle.tasking_program.specs.Columns.{computes, carries, columns_of}
use Rattle.tasking_program.specs.Programme.{tasking_programme}
use Rattle.tasking_program.specs.Points.{same_column, amounts_of, over_links, AreLookedUp, IsSteady}
use Rattle.series_flows.specs.Flows.{tasks_in, flow_in, use_in}
use Rattle.series_flows.specs.Points.{IsPoint}
use Rattle.series_flows.specs.Amounts.{over, over_kinds, AreAmounts}
use Rattle.series_flows.proofs.Terms.{true_or_false}
use Rattle.series_flows.proofs.Whole.{no_tasks, AreInTicks, values_small, feasible, gains}
use Rattle.series_flows.proofs.Bounds.{lasting, few_units, some_time, unit_of_times, some_cost, sender_inside}
use Rattle.series_flows.proofs.LinkTotals.{used_alone}

-- a column's tasks in the ticks
abbrev pub tasks_of : TimedView → List Fraction → ℕ → Column → ℕ
tasks_of t values ticks column = tasks_in ticks (value_of (same_column column) (columns_of t) values)

module _ (t : TimedView) (values : List Fraction) (ticks : ℕ) (looked : AreLookedUp t) where
  abbrev amount : Column → ℕ
  amount column = tasks_of t values ticks column

  -- what no plan can use carries nothing, and what doesn't compute computes nothing
  unused : (link : ℕ) → carries t link ≡ false → amount (Flows link) ≡ 0
  unused link e = no_tasks ticks _ (looked.no_flow values link e)

  idle : (node : ℕ) → computes t node ≡ false → amount (Computes node) ≡ 0
  idle node e = no_tasks ticks _ (looked.no_rate values node e)

  are : length values ≡ length (columns_of t) → AreInTicks t Tasking values ticks (amounts_of t amount)
  are one_each j l = ap (tasks_in ticks) (looked.there values j l one_each)

  pub in_programme : IsPoint t Tasking values → All (λ (value : Fraction). ticks % value.den ≡ 0) values → IsFeasible (tasking_programme t) (amounts_of t amount) ticks
  in_programme point whole_ones = feasible t Tasking values ticks point whole_ones (amounts_of t amount) (are point.one_each)

  -- only nodes that compute have tasks
  computed : (node : ℕ) → cond (computes t node) (amount (Computes node)) 0 ≡ amount (Computes node)
  computed node = either (computes t node) (amount (Computes node)) (idle node)
    where
      either : (b : Bool) (n : ℕ) → (b ≡ false → n ≡ 0) → cond b n 0 ≡ n
      either true n h = refl
      either false n h = sym (h refl)

  pub gain : (point : IsPoint t Tasking values) → All (λ (value : Fraction). ticks % value.den ≡ 0) values →
      gain_value (tasking_programme t) (amounts_of t amount) ≡ pos (total_below (length t.platform.nodes) (λ node. cond (computes t node) (amount (Computes node)) 0)) →
      pos point.den *ℤ pos (total_below (length t.platform.nodes) (use_in t Tasking values ticks 0)) ≡ pos ticks *ℤ gain_value (tasking_programme t) point.point
  gain point whole_ones e =
      ap (λ n. pos point.den *ℤ pos n) (sym (same_total (length t.platform.nodes) _ (use_in t Tasking values ticks 0) (λ node l. computed node)))
      ∙ ap (λ z. pos point.den *ℤ z) (sym e) ∙ gains t Tasking values ticks point whole_ones (amounts_of t amount) (are point.one_each)

  module _ (timed : IsTimed t) (steady : IsSteady t amount ticks) where
    -- ---- no number exceeds the ticks

    in_time : (node : ℕ) → node < length t.platform.nodes → time_of t node * amount (Computes node) ≤ ticks
    in_time node l = elim (true_or_false (computes t node)) [
      | inl does ↦ steady.processors node l does
      | inr none ↦ rw (idle node none) (nothing (time_of t node))
    ]
      where
        nothing : (time : ℕ) → time * 0 ≤ ticks
        nothing time = omega arith

    rate_small : (node : ℕ) → node < length t.platform.nodes → amount (Computes node) ≤ ticks
    rate_small node l = elim (true_or_false (computes t node)) [
      | inl does ↦ lasting (time_of t node) (amount (Computes node)) ticks (some_time t timed node l does) (steady.processors node l does)
      | inr none ↦ rw (idle node none) (omega arith)
    ]

    flow_small : (link : ℕ) → link < length t.platform.links → carries t link ≡ true → amount (Flows link) ≤ ticks
    flow_small link l used =
        let one = one_of_total (length t.platform.links) (λ k. cond (carries t k && nat_eq (sender_of t k) (sender_of t link)) (cost_of t k * amount (Flows k)) 0) link l in
        let same : nat_eq (sender_of t link) (sender_of t link) ≡ true = grind (arith, nat_tests) in
        let is : cond (carries t link && nat_eq (sender_of t link) (sender_of t link)) (cost_of t link * amount (Flows link)) 0 ≡ cost_of t link * amount (Flows link) = rw (used, same) refl in
        let time = steady.senders (sender_of t link) (sender_inside t timed link l) in
        lasting (cost_of t link) (amount (Flows link)) ticks (some_cost t timed link l) (omega (arith, one, is, time))

    all_small : All (λ column. amount column ≤ ticks) (columns_of t)
    all_small =
        All-append (λ column. amount column ≤ ticks) _ _
        (each_all (λ column. amount column ≤ ticks) (computes t) Computes (length t.platform.nodes) (λ node l e. rate_small node l))
        (each_all (λ column. amount column ≤ ticks) (carries t) Flows (length t.platform.links) (λ link l e. flow_small link l e))

    pub small : length values ≡ length (columns_of t) → All (λ (value : Fraction). tasks_in ticks value ≤ ticks) values
    small one_each =
        values_small t Tasking values ticks (amounts_of t amount) (are one_each) one_each
        (λ j l. All-get_or (λ column. amount column ≤ ticks) (columns_of t) j (Computes 0) l all_small)

    -- ---- the amounts

    -- a port's time, with what no plan can use
    port : (test : ℕ → Bool) → over_links t test (λ link. cost_of t link * amount (Flows link)) ≤ ticks →
        over t test (λ link. cost_of t link * over_kinds 1 (flow_in t Tasking values ticks) link) ≤ ticks
    port test h =
        subst (λ n. n ≤ ticks)
        (used_alone (length t.platform.links) (carries t) test (λ link. cost_of t link * amount (Flows link)) free
        ∙ same_total (length t.platform.links) _ _ (λ link l. ap (λ n. cond (test link) (cost_of t link * n) 0) (alone (amount (Flows link))))) h
      where
        alone : (n : ℕ) → n ≡ 0 + n
        alone n = omega arith

        nothing : (cost n : ℕ) → n ≡ 0 → cost * n ≡ 0
        nothing cost n e = rw e (omega arith)

        free : (link : ℕ) → carries t link ≡ false → cost_of t link * amount (Flows link) ≡ 0
        free link e = nothing (cost_of t link) (amount (Flows link)) (unused link e)

    supplies : (node : ℕ) → node < length t.platform.nodes → is_master t.platform node ≡ false →
        amount (Computes node) + over t (λ link. nat_eq (sender_of t link) node) (λ link. amount (Flows link)) ≤ over t (λ link. nat_eq (receiver_of t link) node) (λ link. amount (Flows link))
    supplies node l away =
        let kept = steady.supplies node l away in
        let out = used_alone (length t.platform.links) (carries t) (λ link. nat_eq (sender_of t link) node) (λ link. amount (Flows link)) unused in
        let into = used_alone (length t.platform.links) (carries t) (λ link. nat_eq (receiver_of t link) node) (λ link. amount (Flows link)) unused in
        omega (arith, kept, out, into, computed node)

    may_use : (node : ℕ) → 1 ≤ amount (Computes node) → computes t node ≡ true
    may_use node some = elim (true_or_false (computes t node)) [
      | inl does ↦ does
      | inr none ↦ let nothing = idle node none in absurd (omega (arith, some, nothing))
    ]

    slow : (node : ℕ) → node < length t.platform.nodes → amount (Computes node) * t.unit ≤ 2000000 * ticks
    slow node l = elim (true_or_false (computes t node)) [
      | inl does ↦ few_units t.unit (time_of t node) (amount (Computes node)) ticks (unit_of_times t timed node l does) (steady.processors node l does)
      | inr none ↦ rw (idle node none) (omega arith)
    ]

    turned : (time n : ℕ) → time * n ≤ ticks → n * time ≤ ticks
    turned time n h = omega (arith, h)

    pub are_amounts : AreAmounts t Tasking (flow_in t Tasking values ticks) (use_in t Tasking values ticks) ticks
    are_amounts = record {
      some_kind = omega arith;
      few_kinds = omega arith;
      senders = λ node l. port (λ link. nat_eq (sender_of t link) node) (steady.senders node l);
      receivers = λ node l. port (λ link. nat_eq (receiver_of t link) node) (steady.receivers node l);
      supplies = λ kind node k l away. supplies node l away;
      may_use = λ kind node k l some. may_use node some;
      little = λ kind node k l. rate_small node l;
      slow = λ kind node k l. slow node l;
      used = λ node l. turned (time_of t node) (amount (Computes node)) (in_time node l);
    }
