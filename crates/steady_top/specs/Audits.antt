-- What the audit of a plan comes to (this project).
use Rattle.std.specs.Prelude.{◌≡◌, ℕ, ◌<◌, ◌≤◌, ◌^◌, ◌⊎◌, List, ◌++◌, length, codes, decimal}
use Rattle.platform_file.specs.Ticks.{TimedView, IsTimed}
use Rattle.schedule_model.specs.declared.breach.Rule.{Rule}
use Rattle.schedule_model.specs.declared.schedule.Series.{Series}
use Rattle.schedule_model.specs.declared.schedule.Schedule.{Schedule}
use Rattle.schedule_model.specs.Breaches.{IsFirstBreach}
use Rattle.schedule_model.specs.Validity.{IsValid, completed}
use Rattle.period_table.specs.declared.table.Table.{Table}
use Rattle.period_table.specs.TableSchedules.{ops_below, table_schedule}
use Rattle.text_lines.specs.Lines.{line}
use Rattle.plan_text.specs.Reading.{IsPlanOf, IsFaultAt}
use Rattle.steady_top.specs.Refusals.{Reason, plan_line, long_operations, breach}

-- the most operations of a schedule
abbrev pub most_operations : ℕ
most_operations = 4000000

-- the line of a plan over some periods: how many ticks they last, and how many tasks or messages are completed in them
abbrev pub audit_text : ℕ → ℕ → ℕ → List ℕ
audit_text periods ticks count = line (codes "audit 1 periods " ++ (decimal periods ++ (codes " ticks " ++ (decimal ticks ++ (codes " completed " ++ decimal count)))))

-- the bytes are a plan of the platform whose schedule isn't too long
pub record IsPlanned (periods : ℕ) (t : TimedView) (bytes : List ℕ) : Type 0 where
  pub series : Series
  pub table : Table
  pub plan : IsPlanOf t bytes series table
  pub short : length (ops_below t series table periods) ≤ most_operations

-- the schedule of what was planned
abbrev pub schedule_over : {periods : ℕ} {t : TimedView} {bytes : List ℕ} → IsPlanned periods t bytes → Schedule
schedule_over {periods} {t} planned = table_schedule t planned.series planned.table periods

-- the plan's schedule keeps every rule
pub record IsSound (periods : ℕ) (t : TimedView) (bytes : List ℕ) : Type 0 where
  pub planned : IsPlanned periods t bytes
  pub valid : IsValid t planned.series (schedule_over planned)

-- the text has the plan's numbers, and its schedule keeps every rule
pub record IsAudit (periods : ℕ) (t : TimedView) (bytes text : List ℕ) : Type 0 where
  pub sound : IsSound periods t bytes
  pub is_line : text ≡ audit_text periods (schedule_over sound.planned).length (completed t sound.planned.series (schedule_over sound.planned))

-- the bytes are a plan, and its schedule is too long
pub record IsLongPlan (periods : ℕ) (t : TimedView) (bytes : List ℕ) : Type 0 where
  pub series : Series
  pub table : Table
  pub plan : IsPlanOf t bytes series table
  pub long : most_operations < length (ops_below t series table periods)

-- the plan's schedule breaks a rule, this one first
pub record IsBreach (periods : ℕ) (t : TimedView) (bytes : List ℕ) (index : ℕ) (rule : Rule) : Type 0 where
  pub planned : IsPlanned periods t bytes
  pub first : IsFirstBreach t planned.series (schedule_over planned) (record { index = index; rule = rule })
  pub invalid : IsValid t planned.series (schedule_over planned) → ⊥

-- why the bytes are no plan that keeps every rule: a line at which reading stops, a schedule that is too long, or a rule that is broken
abbrev pub IsReason : ℕ → TimedView → List ℕ → Reason → Type 0
IsReason periods t bytes reason =
    ((number : ℕ) × (reason ≡ plan_line number) × IsFaultAt t bytes number)
    ⊎ (((reason ≡ long_operations) × IsLongPlan periods t bytes)
    ⊎ ((index : ℕ) × (rule : Rule) × (reason ≡ breach index rule) × IsBreach periods t bytes index rule))

-- the bytes of a file within the limit are refused for a reason, on a platform in ticks
pub record IsUnsound (periods : ℕ) (t : TimedView) (bytes : List ℕ) (reason : Reason) : Type 0 where
  pub timed : IsTimed t
  pub small : length bytes < 2 ^ 64
  pub reasoned : IsReason periods t bytes reason
