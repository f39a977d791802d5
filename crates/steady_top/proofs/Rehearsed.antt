-- A platform has one plan, so what its rehearsal comes to, it comes to alone.
use Rattle.std.proofs.Common.{◌≡◌, ◌∙◌, ℕ, ◌≤◌, List, Result, Ok, Err, IfOk, sym, ap, subst, arith, inl, inr}
use Rattle.platform_file.specs.Ticks.{TimedView}
use Rattle.schedule_model.specs.declared.schedule.Series.TheVariants.{Tasking}
use Rattle.planner.specs.declared.planned.Plan.{Plan}
use Rattle.planner.specs.Plans.{IsPlan}
use Rattle.planner.proofs.OneTable.{plan_is_one}
use Rattle.period_table.specs.declared.table.Table.{Table}
use Rattle.step_core.specs.declared.wiring.Event.{Event}
use Rattle.step_core.specs.Wirings.{WiringView}
use Rattle.step_core.specs.Histories.{IsLegal, IsComplete}
use Rattle.rehearsal.specs.Choices.{IsRehearsed}
use Rattle.actor_programs.specs.Programs.{wiring_of}
use Rattle.actor_programs.specs.Faults.{events_in}
use Rattle.steady_top.specs.Refusals.{Reason, reason_status}
use Rattle.steady_top.specs.Rehearsals.{most_events, IsRunnable, IsIdle, IsLongRun, IsRunReason, IsHistoryOf}

module _ (pivots : ℕ) (t : TimedView) (chunks : ℕ) where
  -- a fact of one plan is one of the other
  of_other : (P : Plan → Type 0) (plan other : Plan) → IsPlan pivots t Tasking plan → IsPlan pivots t Tasking other → P plan → P other
  of_other P plan other is also holds = subst P (plan_is_one pivots t Tasking plan other is also) holds

  not_idle : (plan : Plan) → IsPlan pivots t Tasking plan → (plan.table.tasks ≡ 0 → chunks ≡ 0) → IsIdle pivots t chunks → ⊥
  not_idle plan is computes idle =
      idle.some (of_other (λ p. p.table.tasks ≡ 0 → chunks ≡ 0) plan idle.plan is idle.planned computes idle.none)

  not_long : (plan : Plan) → IsPlan pivots t Tasking plan → events_in t plan.table chunks ≤ most_events → IsLongRun pivots t chunks → ⊥
  not_long plan is short long =
      let moved : events_in t long.plan.table chunks ≤ most_events = of_other (λ p. events_in t p.table chunks ≤ most_events) plan long.plan is long.planned short in
      let bad = long.long in
      omega (arith, moved, bad)

  -- a plan that can be carried out is refused for no reason
  pub runnable_or_refused : (reason : Reason) → IsRunnable pivots t chunks → IsRunReason pivots t chunks reason → ⊥
  runnable_or_refused reason run (inl w) = not_idle run.plan run.planned run.computes w.1
  runnable_or_refused reason run (inr w) = not_long run.plan run.planned run.short w.1

  -- all reasons to refuse it have one status
  pub one_run_status : (first second : Reason) → IsRunReason pivots t chunks first → IsRunReason pivots t chunks second → reason_status first ≡ reason_status second
  one_run_status first second (inl w) (inl v) = ap reason_status w.0 ∙ sym (ap reason_status v.0)
  one_run_status first second (inl w) (inr v) = absurd (not_idle v.1.plan v.1.planned v.1.computes w.1)
  one_run_status first second (inr w) (inl v) = absurd (not_idle w.1.plan w.1.planned w.1.computes v.1)
  one_run_status first second (inr w) (inr v) = ap reason_status w.0 ∙ sym (ap reason_status v.0)

-- a history that was rehearsed on a table's wiring is one of the table
pub history_found : {A E : Type 0} (events : A → List Event) (t : TimedView) (table : Table) (chunks seed : ℕ) (w : WiringView) → w ≡ wiring_of t table chunks → (r : Result A E) → IfOk r (λ h. IsLegal w (events h)) →
    IfOk r (λ h. IsComplete w (events h)) → IfOk r (λ h. IsRehearsed w seed (events h)) → IfOk r (λ h. IsHistoryOf t table chunks seed (events h))
history_found events t table chunks seed w is (Ok h) legal complete chosen = record {
  legal = subst (λ v. IsLegal v (events h)) is legal;
  complete = subst (λ v. IsComplete v (events h)) is complete;
  chosen = subst (λ v. IsRehearsed v seed (events h)) is chosen;
}
history_found events t table chunks seed w is (Err e) legal complete chosen = tt
