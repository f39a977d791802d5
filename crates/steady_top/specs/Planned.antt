-- What reading a named file comes to: a platform's, and a certificate's or a plan's behind it (this project).
use Rattle.std.specs.Prelude.{◌≡◌, ◌≢◌, ℕ, ◌+◌, ◌*◌, ◌<◌, ◌≤◌, ◌⊎◌, true, false, nat_abs, List, length, Some, Ok}
use Rattle.command_words.specs.Words.{Command}
use Rattle.outside_io.specs.Files.{FilesView, HasCause}
use Rattle.outside_io.specs.Reading.{MayPass}
use Rattle.platform_file.specs.Reading.{most_bytes}
use Rattle.platform_file.specs.Ticks.{TimedView}
use Rattle.schedule_model.specs.Throughput.{IsUpperRate}
use Rattle.linear_program.specs.Certificates.{CertificateView}
use Rattle.series_flows.specs.Programmes.{programme_of, lacks_targets}
use Rattle.dual_checker.specs.Reading.{certificate_of}
use Rattle.dual_checker.specs.Texts.{certificate_text}
use Rattle.dual_checker.specs.Verdicts.{verdict_of}
use Rattle.dual_checker.specs.declared.verdict.Verdict.TheVariants.{Proves}
use Rattle.planner.specs.declared.planned.Plan.{Plan}
use Rattle.planner.specs.Plans.{IsPlan}
use Rattle.planner.specs.Prices.{prices_of, IsBestCertificate}
use Rattle.plan_text.specs.Texts.{plan_text}
use Rattle.period_table.specs.Best.{IsBest}
use Rattle.steady_top.specs.Refusals.{Reason, nothing_computes, long_events, Refusal, usage, refused, cannot_read, no_memory}
use Rattle.steady_top.specs.Outcomes.{Outcome, files_of, files_for, refuses, IsRefusal, with_file, upper_text, most_plan_bytes, rehearse_of_bytes}
use Rattle.schedule_model.specs.declared.schedule.Series.{Series}
use Rattle.schedule_model.specs.declared.schedule.Series.TheVariants.{Tasking}
use Rattle.schedule_model.specs.declared.schedule.Schedule.{Schedule}
use Rattle.period_table.specs.declared.table.Table.{Table}
use Rattle.period_table.specs.TableSchedules.{ops_below, table_schedule}
use Rattle.plan_text.specs.Reading.{IsPlanOf}
use Rattle.steady_top.specs.Audits.{most_operations, IsReason, IsAudit}
use Rattle.step_core.specs.declared.wiring.Event.{Event}
use Rattle.step_core.specs.Wirings.{WiringView}
use Rattle.actor_programs.specs.Programs.{wiring_of}
use Rattle.actor_programs.specs.Faults.{events_in}
use Rattle.chunk_tasks.specs.Chunks.{chunk_count}
use Rattle.steady_top.specs.Rehearsals.{most_data_bytes, most_events, IsHistoryOf, run_text, IsRehearsal}
use Rattle.steady_top.specs.Answers.{MayBe, AreOpened, IsPlatformOf}

-- a named file has no bytes to go on with: it can't be opened or read, it is longer than so many bytes, which is the refusal `long`, or
-- memory ran out
abbrev pub UnreadCause : FilesView → List ℕ → ℕ → Refusal → FilesView → Refusal → Type 0
UnreadCause before name most long after refusal =
    ((refusal ≡ cannot_read name) × HasCause before name after) ⊎ (((refusal ≡ long) × MayPass (before.held name) most) ⊎ ((refusal ≡ no_memory) × (after.faults ≡ before.faults)))

-- why the bytes of a file aren't read, in one open; of a file that was opened at most one byte more than the limit is taken
pub record IsUnread (before : FilesView) (name : List ℕ) (most : ℕ) (long : Refusal) (after : FilesView) (refusal : Refusal) : Type 0 where
  pub opens : AreOpened 1 before after
  pub taken : after.ready ≡ true → after.taken ≤ most + 1
  pub cause : UnreadCause before name most long after refusal

-- the platform of the file was read and brought into ticks, in one open
pub record IsPlatformRead (before : FilesView) (name : List ℕ) (after : FilesView) (t : TimedView) : Type 0 where
  pub platform : IsPlatformOf before name t
  pub short : (next : TimedView → Outcome) → with_file next platform.bytes ≡ next t
  pub calm : after.faults ≡ before.faults
  pub held : (other : List ℕ) → after.held other ≡ before.held other
  pub opens : AreOpened 1 before after

-- what was read of a platform file is refused, whatever was to come of it
pub record IsFileRefused (before : FilesView) (name : List ℕ) (reason : Reason) : Type 0 where
  pub bytes : List ℕ
  pub file : MayBe (before.held name) (Some bytes)
  pub outcome : (next : TimedView → Outcome) → with_file next bytes ≡ refuses (refused reason)
  pub first : (command : Command) → files_for command reason ≡ 1

-- the file can't be opened or read
pub record IsFileFault (before : FilesView) (name : List ℕ) (after : FilesView) (named : List ℕ) : Type 0 where
  pub same : named ≡ name
  pub cause : HasCause before name after

-- why a platform file isn't read: by the file alone, never by the words
abbrev pub PlatformCause : FilesView → List ℕ → FilesView → Refusal → Type 0
PlatformCause before name after (cannot_read named) = IsFileFault before name after named
PlatformCause before name after no_memory = after.faults ≡ before.faults
PlatformCause before name after usage = ⊥
PlatformCause before name after (refused reason) = IsFileRefused before name reason

-- a platform file isn't read, in one open
pub record IsPlatformFault (before : FilesView) (name : List ℕ) (after : FilesView) (refusal : Refusal) : Type 0 where
  pub opens : AreOpened 1 before after
  pub cause : PlatformCause before name after refusal

-- the bytes of a second file were read, in one open
pub record IsSecondRead (before : FilesView) (name : List ℕ) (most : ℕ) (after : FilesView) (bytes : List ℕ) : Type 0 where
  pub file : MayBe (before.held name) (Some bytes)
  pub size : length bytes ≤ most
  pub calm : after.faults ≡ before.faults
  pub opens : AreOpened 1 before after

-- what was read of a second file is refused, where its bytes have these outcomes
pub record IsSecondRefused (outcome : List ℕ → Outcome) (before : FilesView) (name : List ℕ) (reason : Reason) : Type 0 where
  pub bytes : List ℕ
  pub file : MayBe (before.held name) (Some bytes)
  pub refusal : IsRefusal (outcome bytes) (refused reason)
  pub second : (command : Command) → files_for command reason ≡ files_of command

-- why nothing comes of a second file
abbrev pub SecondCause : (List ℕ → Outcome) → FilesView → List ℕ → FilesView → Refusal → Type 0
SecondCause outcome before name after (cannot_read named) = IsFileFault before name after named
SecondCause outcome before name after no_memory = after.faults ≡ before.faults
SecondCause outcome before name after usage = ⊥
SecondCause outcome before name after (refused reason) = IsSecondRefused outcome before name reason

-- nothing comes of a second file, in one open
pub record IsSecondFault (outcome : List ℕ → Outcome) (before : FilesView) (name : List ℕ) (after : FilesView) (refusal : Refusal) : Type 0 where
  pub opens : AreOpened 1 before after
  pub cause : SecondCause outcome before name after refusal

-- the certificate proves that no schedule exceeds its rate, and the text says so
pub record IsProved (t : TimedView) (series : Series) (c : CertificateView) (text : List ℕ) : Type 0 where
  pub proves : verdict_of (programme_of t series) c ≡ Proves
  pub rate : IsUpperRate t series (nat_abs c.best * t.unit) (nat_abs c.scale)
  pub is_line : text ≡ upper_text t c

-- the outcome refuses so; memory may run out at any time
abbrev pub MayRefuse : Outcome → Refusal → Type 0
MayRefuse outcome no_memory = Unit {0}
MayRefuse outcome usage = ⊥
MayRefuse outcome (cannot_read name) = ⊥
MayRefuse outcome (refused reason) = outcome ≡ refuses (refused reason)

-- the bytes are a certificate that proves, and the text says what
pub record IsCheck (t : TimedView) (series : Series) (bytes text : List ℕ) : Type 0 where
  pub some_target : lacks_targets t series ≡ false
  pub certificate : CertificateView
  pub read : certificate_of series (length (programme_of t series).rows) bytes ≡ Ok certificate
  pub proved : IsProved t series certificate text

-- the certificate of the file was read and proves, and the text says what
pub record IsChecked (t : TimedView) (series : Series) (before : FilesView) (name : List ℕ) (after : FilesView) (text : List ℕ) : Type 0 where
  pub bytes : List ℕ
  pub read : IsSecondRead before name most_bytes after bytes
  pub check : IsCheck t series bytes text

-- the text is that of a plan of the platform for the series, whose table is best
pub record IsBestPlan (pivots : ℕ) (t : TimedView) (series : Series) (text : List ℕ) : Type 0 where
  pub plan : Plan
  pub made : IsPlan pivots t series plan
  pub best : IsBest t series plan.table
  pub is_plan : text ≡ plan_text t series plan.table

-- the text is the certificate of the platform's best rate of the series, which no schedule exceeds
pub record IsBestPrices (pivots : ℕ) (t : TimedView) (series : Series) (text : List ℕ) : Type 0 where
  pub certificate : CertificateView
  pub run : prices_of pivots t series ≡ Some (Ok certificate)
  pub best : IsBestCertificate pivots t series certificate
  pub rate : IsUpperRate t series (nat_abs certificate.best * t.unit) (nat_abs certificate.scale)
  pub is_certificate : text ≡ certificate_text series certificate

-- the schedule is that of the plan, and isn't too long
pub record IsScheduleOf (periods : ℕ) (t : TimedView) (bytes : List ℕ) (series : Series) (schedule : Schedule) : Type 0 where
  pub table : Table
  pub plan : IsPlanOf t bytes series table
  pub short : length (ops_below t series table periods) ≤ most_operations
  pub is : schedule ≡ table_schedule t series table periods

-- the plan is refused so; memory may run out at any time
abbrev pub IsAuditFault : ℕ → TimedView → List ℕ → Refusal → Type 0
IsAuditFault periods t bytes no_memory = Unit {0}
IsAuditFault periods t bytes usage = ⊥
IsAuditFault periods t bytes (cannot_read name) = ⊥
IsAuditFault periods t bytes (refused reason) = IsReason periods t bytes reason

-- the plan of the file was read, and the text has its numbers
pub record IsAudited (t : TimedView) (periods : ℕ) (before : FilesView) (name : List ℕ) (after : FilesView) (text : List ℕ) : Type 0 where
  pub bytes : List ℕ
  pub read : IsSecondRead before name most_plan_bytes after bytes
  pub audit : IsAudit periods t bytes text

-- the text is that of the platform's plan, whose table is best, and of its run over the data
pub record IsBestRehearsal (pivots size seed : ℕ) (t : TimedView) (bytes text : List ℕ) : Type 0 where
  pub rehearsal : IsRehearsal pivots size seed t bytes text
  pub best : IsBest t Tasking rehearsal.runnable.plan.table

-- the data of the file were read, and the text is that of the platform's plan and of its run over them
pub record IsRehearsedOver (t : TimedView) (pivots size seed : ℕ) (before : FilesView) (name : List ℕ) (after : FilesView) (text : List ℕ) : Type 0 where
  pub bytes : List ℕ
  pub read : IsSecondRead before name most_data_bytes after bytes
  pub done : IsBestRehearsal pivots size seed t bytes text

-- the wiring is a table's for so many chunks, which it computes in few enough events
pub record IsWired (t : TimedView) (table : Table) (chunks : ℕ) (wiring : WiringView) : Type 0 where
  pub is : wiring ≡ wiring_of t table chunks
  pub computes : table.tasks ≡ 0 → chunks ≡ 0
  pub short : events_in t table chunks ≤ most_events

-- why a table isn't carried out over so many chunks
abbrev pub IsTableReason : TimedView → Table → ℕ → Reason → Type 0
IsTableReason t table chunks reason =
    ((reason ≡ nothing_computes) × (table.tasks ≡ 0) × (chunks ≢ 0))
    ⊎ ((reason ≡ long_events) × (table.tasks ≡ 0 → chunks ≡ 0) × (most_events < events_in t table chunks))

-- it isn't; memory may run out at any time
abbrev pub IsTableFault : TimedView → Table → ℕ → Refusal → Type 0
IsTableFault t table chunks no_memory = Unit {0}
IsTableFault t table chunks usage = ⊥
IsTableFault t table chunks (cannot_read name) = ⊥
IsTableFault t table chunks (refused reason) = IsTableReason t table chunks reason

-- the text is that of a table and of its run over the data, of which the seed chooses a history
pub record IsRunOf (t : TimedView) (table : Table) (size seed : ℕ) (bytes text : List ℕ) : Type 0 where
  pub computes : table.tasks ≡ 0 → chunk_count size bytes ≡ 0
  pub short : events_in t table (chunk_count size bytes) ≤ most_events
  pub history : List Event
  pub rehearsed : IsHistoryOf t table (chunk_count size bytes) seed history
  pub is_text : text ≡ run_text t table size bytes

-- the rehearsal over some data is refused; memory may run out at any time
abbrev pub IsRehearsalFault : ℕ → ℕ → ℕ → TimedView → List ℕ → Refusal → Type 0
IsRehearsalFault pivots size seed t bytes no_memory = Unit {0}
IsRehearsalFault pivots size seed t bytes usage = ⊥
IsRehearsalFault pivots size seed t bytes (cannot_read name) = ⊥
IsRehearsalFault pivots size seed t bytes (refused reason) = IsRefusal (rehearse_of_bytes pivots size seed t bytes) (refused reason)
