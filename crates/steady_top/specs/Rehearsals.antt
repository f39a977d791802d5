-- What the rehearsal of a plan over some data comes to.
use Rattle.std.specs.Prelude.{◌≡◌, ◌≢◌, ℕ, ◌<◌, ◌≤◌, ◌⊎◌, List, ◌++◌}
use Rattle.platform_file.specs.Ticks.{TimedView}
use Rattle.schedule_model.specs.declared.schedule.Series.TheVariants.{Tasking}
use Rattle.period_table.specs.declared.table.Table.{Table}
use Rattle.planner.specs.declared.planned.Plan.{Plan}
use Rattle.planner.specs.Plans.{IsPlan}
use Rattle.plan_text.specs.Texts.{plan_text}
use Rattle.step_core.specs.declared.wiring.Event.{Event}
use Rattle.step_core.specs.Histories.{IsLegal, IsComplete}
use Rattle.actor_programs.specs.Programs.{wiring_of}
use Rattle.actor_programs.specs.Faults.{events_in}
use Rattle.chunk_tasks.specs.Chunks.{chunk_count, digests_of}
use Rattle.rehearsal.specs.Choices.{IsRehearsed}
use Rattle.run_text.specs.Reports.{report_text}
use Rattle.run_text.specs.Counts.{node_counts}
use Rattle.steady_top.specs.Refusals.{Reason, nothing_computes, long_events}

-- the most bytes of data
abbrev pub most_data_bytes : ℕ
most_data_bytes = 268435456

-- the most events of a run
abbrev pub most_events : ℕ
most_events = 4000000

-- the platform's plan for tasks can be carried out over so many chunks: where there is a chunk it computes, and there aren't too many events
pub record IsRunnable (pivots : ℕ) (t : TimedView) (chunks : ℕ) : Type 0 where
  pub plan : Plan
  pub planned : IsPlan pivots t Tasking plan
  pub computes : plan.table.tasks ≡ 0 → chunks ≡ 0
  pub short : events_in t plan.table chunks ≤ most_events

-- there is a chunk, and the platform's plan computes nothing
pub record IsIdle (pivots : ℕ) (t : TimedView) (chunks : ℕ) : Type 0 where
  pub plan : Plan
  pub planned : IsPlan pivots t Tasking plan
  pub none : plan.table.tasks ≡ 0
  pub some : chunks ≢ 0

-- the plan computes, and carrying it out has too many events
pub record IsLongRun (pivots : ℕ) (t : TimedView) (chunks : ℕ) : Type 0 where
  pub plan : Plan
  pub planned : IsPlan pivots t Tasking plan
  pub computes : plan.table.tasks ≡ 0 → chunks ≡ 0
  pub long : most_events < events_in t plan.table chunks

-- why a platform that is planned isn't rehearsed over so many chunks
abbrev pub IsRunReason : ℕ → TimedView → ℕ → Reason → Type 0
IsRunReason pivots t chunks reason =
    ((reason ≡ nothing_computes) × IsIdle pivots t chunks) ⊎ ((reason ≡ long_events) × IsLongRun pivots t chunks)

-- the history is a complete one of the table's wiring for so many chunks, in which each event is the one that the seed chooses
pub record IsHistoryOf (t : TimedView) (table : Table) (chunks seed : ℕ) (history : List Event) : Type 0 where
  pub legal : IsLegal (wiring_of t table chunks) history
  pub complete : IsComplete (wiring_of t table chunks) history
  pub chosen : IsRehearsed (wiring_of t table chunks) seed history

-- the plan's text, and behind it the report of its run over some data in chunks of a size
abbrev pub run_text : TimedView → Table → ℕ → List ℕ → List ℕ
run_text t table size bytes =
    plan_text t Tasking table
    ++ report_text t table (events_in t table (chunk_count size bytes)) (digests_of size bytes) (node_counts t table (chunk_count size bytes))

-- the text is that of the platform's plan and of its run over the data, of which the seed chooses a history
pub record IsRehearsal (pivots size seed : ℕ) (t : TimedView) (bytes text : List ℕ) : Type 0 where
  pub runnable : IsRunnable pivots t (chunk_count size bytes)
  pub history : List Event
  pub rehearsed : IsHistoryOf t runnable.plan.table (chunk_count size bytes) seed history
  pub is_text : text ≡ run_text t runnable.plan.table size bytes
