-- What the audit of a plan comes to, it comes to alone.
use Rattle.std.proofs.Common.{◌≡◌, ◌∙◌, ℕ, ◌<◌, ◌≤◌, ◌^◌, List, length, true, false, refl, sym, ap, subst, arith, inl, inr}
use Rattle.platform_file.specs.Ticks.{TimedView, IsTimed}
use Rattle.schedule_model.specs.declared.breach.Rule.{Rule}
use Rattle.schedule_model.specs.declared.schedule.Series.{Series}
use Rattle.schedule_model.specs.declared.schedule.Schedule.{Schedule}
use Rattle.schedule_model.specs.Breaches.{IsFirstBreach}
use Rattle.schedule_model.specs.Validity.{IsValid, completed}
use Rattle.period_table.specs.declared.table.Table.{Table}
use Rattle.period_table.specs.TableSchedules.{ops_below, table_schedule}
use Rattle.plan_text.specs.Reading.{IsPlanOf, IsFaultAt}
use Rattle.plan_text.proofs.Readable.{readable, determined}
use Rattle.steady_top.specs.Refusals.{Refusal, Reason, breach, usage, refused, cannot_read, no_memory, status_of, reason_status}
use Rattle.steady_top.specs.Audits.{most_operations, audit_text, IsPlanned, IsSound, IsAudit, IsReason, IsUnsound}
use Rattle.steady_top.specs.Planned.{IsScheduleOf}
use Rattle.chunk_tasks.specs.Chunks.{chunk_count}
use Rattle.steady_top.specs.Outcomes.{Outcome, prints, plans, audits, rehearses, refuses, IsPrint, IsText, IsRefusal}
use Rattle.steady_top.proofs.Rehearsed.{runnable_or_refused, one_run_status}

module _ (periods : ℕ) (t : TimedView) (bytes : List ℕ) (timed : IsTimed t) (small : length bytes < 2 ^ 64) where
  one_plan : (series other : Series) (table second : Table) → IsPlanOf t bytes series table → IsPlanOf t bytes other second → (series ≡ other) × (table ≡ second)
  one_plan series other table second plan also =
      determined t timed series other table second plan.fits also.fits plan.lanes32 also.lanes32 (subst (λ text. length text < 2 ^ 64) plan.is_text small) (sym plan.is_text ∙ also.is_text)

  no_fault : (series : Series) (table : Table) (number : ℕ) → IsPlanOf t bytes series table → IsFaultAt t bytes number → ⊥
  no_fault series table number plan fault =
      readable t timed series table number plan.fits plan.lanes32 (subst (λ text. length text < 2 ^ 64) plan.is_text small) (subst (λ text. IsFaultAt t text number) plan.is_text fault)

  not_long : (series other : Series) (table second : Table) → IsPlanOf t bytes series table → length (ops_below t series table periods) ≤ most_operations → IsPlanOf t bytes other second →
      most_operations < length (ops_below t other second periods) → ⊥
  not_long series other table second plan short also long =
      let same = one_plan series other table second plan also in
      let moved : length (ops_below t other second periods) ≤ most_operations = subst (λ s. length (ops_below t s second periods) ≤ most_operations) same.0 (subst (λ u. length (ops_below t series u periods) ≤ most_operations) same.1 short) in
      omega (arith, moved, long)

  not_broken : (series other : Series) (table second : Table) → IsPlanOf t bytes series table → IsValid t series (table_schedule t series table periods) → IsPlanOf t bytes other second →
      (IsValid t other (table_schedule t other second periods) → ⊥) → ⊥
  not_broken series other table second plan valid also invalid =
      let same = one_plan series other table second plan also in
      invalid (subst (λ s. IsValid t s (table_schedule t s second periods)) same.0 (subst (λ u. IsValid t series (table_schedule t series u periods)) same.1 valid))

-- a plan that keeps every rule is refused for no reason
sound_or_unsound : (periods : ℕ) (t : TimedView) (bytes : List ℕ) (reason : Reason) → IsSound periods t bytes → IsUnsound periods t bytes reason → ⊥
sound_or_unsound periods t bytes reason sound unsound =
    let plan = sound.planned in
    elim unsound.reasoned [
      | inl w ↦ no_fault periods t bytes unsound.timed unsound.small plan.series plan.table w.0 plan.plan w.2
      | inr (inl w) ↦ not_long periods t bytes unsound.timed unsound.small plan.series w.1.series plan.table w.1.table plan.plan plan.short w.1.plan w.1.long
      | inr (inr w) ↦
          let broken = w.3 in
          not_broken periods t bytes unsound.timed unsound.small plan.series broken.planned.series plan.table broken.planned.table plan.plan sound.valid broken.planned.plan broken.invalid
    ]

-- all reasons to refuse a plan have one status
one_reason_status : (periods : ℕ) (t : TimedView) (bytes : List ℕ) (first second : Reason) → IsUnsound periods t bytes first → IsUnsound periods t bytes second → reason_status first ≡ reason_status second
one_reason_status periods t bytes first second unsound also = of unsound.reasoned also.reasoned
  where
    of : IsReason periods t bytes first → IsReason periods t bytes second → reason_status first ≡ reason_status second
    of (inl w) (inl v) = ap reason_status w.1 ∙ sym (ap reason_status v.1)
    of (inl w) (inr (inl v)) = absurd (no_fault periods t bytes unsound.timed unsound.small v.1.series v.1.table w.0 v.1.plan w.2)
    of (inl w) (inr (inr v)) = ap reason_status w.1 ∙ sym (ap reason_status v.2)
    of (inr (inl w)) (inl v) = absurd (no_fault periods t bytes unsound.timed unsound.small w.1.series w.1.table v.0 w.1.plan v.2)
    of (inr (inl w)) (inr (inl v)) = ap reason_status w.0 ∙ sym (ap reason_status v.0)
    of (inr (inl w)) (inr (inr v)) = absurd (not_long periods t bytes unsound.timed unsound.small v.3.planned.series w.1.series v.3.planned.table w.1.table v.3.planned.plan v.3.planned.short w.1.plan w.1.long)
    of (inr (inr w)) (inl v) = ap reason_status w.2 ∙ sym (ap reason_status v.1)
    of (inr (inr w)) (inr (inl v)) = absurd (not_long periods t bytes unsound.timed unsound.small w.3.planned.series v.1.series w.3.planned.table v.1.table w.3.planned.plan w.3.planned.short v.1.plan v.1.long)
    of (inr (inr w)) (inr (inr v)) = ap reason_status w.2 ∙ sym (ap reason_status v.2)

-- an outcome with a text is no refusal
pub text_or_refusal : (outcome : Outcome) (refusal : Refusal) → IsText outcome → IsRefusal outcome refusal → ⊥
text_or_refusal (prints bytes) refusal text is = is
text_or_refusal (plans pivots t series) refusal text is = is
text_or_refusal (audits periods t bytes) usage text is = is
text_or_refusal (audits periods t bytes) (cannot_read name) text is = is
text_or_refusal (audits periods t bytes) (refused reason) text is = sound_or_unsound periods t bytes reason text is
text_or_refusal (audits periods t bytes) no_memory text is = is
text_or_refusal (rehearses pivots size seed t bytes) usage text is = is
text_or_refusal (rehearses pivots size seed t bytes) (cannot_read name) text is = is
text_or_refusal (rehearses pivots size seed t bytes) (refused reason) text is = runnable_or_refused pivots t (chunk_count size bytes) reason text is
text_or_refusal (rehearses pivots size seed t bytes) no_memory text is = is
text_or_refusal (refuses other) refusal text is = text

-- an outcome that is printed is no refusal
pub print_or_refusal : (outcome : Outcome) (text : List ℕ) (refusal : Refusal) → IsPrint outcome text → IsRefusal outcome refusal → ⊥
print_or_refusal (prints bytes) text refusal print is = is
print_or_refusal (plans pivots t series) text refusal print is = is
print_or_refusal (audits periods t bytes) text usage print is = is
print_or_refusal (audits periods t bytes) text (cannot_read name) print is = is
print_or_refusal (audits periods t bytes) text (refused reason) print is = sound_or_unsound periods t bytes reason print.sound is
print_or_refusal (audits periods t bytes) text no_memory print is = is
print_or_refusal (rehearses pivots size seed t bytes) text usage print is = is
print_or_refusal (rehearses pivots size seed t bytes) text (cannot_read name) print is = is
print_or_refusal (rehearses pivots size seed t bytes) text (refused reason) print is = runnable_or_refused pivots t (chunk_count size bytes) reason print.runnable is
print_or_refusal (rehearses pivots size seed t bytes) text no_memory print is = is
print_or_refusal (refuses other) text refusal print is = print

-- the refusals of an outcome have one status
pub one_status : (outcome : Outcome) (first second : Refusal) → IsRefusal outcome first → IsRefusal outcome second → status_of first ≡ status_of second
one_status (prints bytes) first second is also = absurd is
one_status (plans pivots t series) first second is also = absurd is
one_status (audits periods t bytes) usage second is also = absurd is
one_status (audits periods t bytes) (cannot_read name) second is also = absurd is
one_status (audits periods t bytes) (refused reason) usage is also = absurd also
one_status (audits periods t bytes) (refused reason) (cannot_read name) is also = absurd also
one_status (audits periods t bytes) (refused reason) (refused other) is also = one_reason_status periods t bytes reason other is also
one_status (audits periods t bytes) (refused reason) no_memory is also = absurd also
one_status (audits periods t bytes) no_memory second is also = absurd is
one_status (rehearses pivots size seed t bytes) usage second is also = absurd is
one_status (rehearses pivots size seed t bytes) (cannot_read name) second is also = absurd is
one_status (rehearses pivots size seed t bytes) (refused reason) usage is also = absurd also
one_status (rehearses pivots size seed t bytes) (refused reason) (cannot_read name) is also = absurd also
one_status (rehearses pivots size seed t bytes) (refused reason) (refused other) is also = one_run_status pivots t (chunk_count size bytes) reason other is also
one_status (rehearses pivots size seed t bytes) (refused reason) no_memory is also = absurd also
one_status (rehearses pivots size seed t bytes) no_memory second is also = absurd is
one_status (refuses other) first second is also = ap status_of (sym is ∙ also)

-- an error is no value
pub is_ok_err : false ≡ true → ⊥
is_ok_err e = cc

-- the schedule of a plan that keeps every rule, and its line
module _ (periods : ℕ) (t : TimedView) (bytes : List ℕ) (series : Series) (schedule : Schedule) (scheduled : IsScheduleOf periods t bytes series schedule) where
  abbrev planned_so : IsPlanned periods t bytes
  planned_so = record { series = series; table = scheduled.table; plan = scheduled.plan; short = scheduled.short }

  pub audit_found : (count : ℕ) (text : List ℕ) → IsValid t series schedule → count ≡ completed t series schedule → text ≡ audit_text periods schedule.length count → IsAudit periods t bytes text
  audit_found count text valid counted line = record {
    sound = record { planned = planned_so; valid = subst (IsValid t series) scheduled.is valid };
    is_line = line ∙ ap (audit_text periods schedule.length) counted ∙ ap (λ (s : Schedule). audit_text periods s.length (completed t series s)) scheduled.is;
  }

  -- a rule that its schedule breaks
  pub breach_found : (index : ℕ) (rule : Rule) → IsFirstBreach t series schedule (record { index = index; rule = rule }) → (IsValid t series schedule → ⊥) → IsReason periods t bytes (breach index rule)
  breach_found index rule first invalid =
      inr (inr (index, rule, refl, record { planned = planned_so; first = subst (λ s. IsFirstBreach t series s (record { index = index; rule = rule })) scheduled.is first; invalid = λ valid. invalid (subst (IsValid t series) (sym scheduled.is) valid) }))
