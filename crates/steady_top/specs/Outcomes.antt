-- What the program answers, for given words and contents of files (this project).
use Rattle.std.specs.Prelude.{◌≡◌, ℕ, ◌+◌, cond, List, ◌++◌, length, Option, Some, None, Result, Ok, Err, nat_lt, codes, decimal}
use Rattle.std.specs.Fmt.{signed_decimal}
use Rattle.command_words.specs.Words.{Command, plan, prices, check, audit, rehearse, command_of}
use Rattle.platform_file.specs.declared.fault.PlatformFault.{PlatformFault}
use Rattle.platform_file.specs.declared.fault.PlatformFault.TheVariants.{Limit}
use Rattle.platform_file.specs.declared.fault.Kind.TheVariants.{Text}
use Rattle.platform_file.specs.Platform.{PlatformView}
use Rattle.platform_file.specs.declared.fault.TimedFault.{TimedFault}
use Rattle.platform_file.specs.Reading.{most_bytes, platform_of}
use Rattle.platform_file.specs.Ticks.{TimedView, timed_of}
use Rattle.schedule_model.specs.declared.schedule.Series.{Series}
use Rattle.schedule_model.specs.declared.schedule.Series.TheVariants.{Tasking}
use Rattle.linear_program.specs.Certificates.{CertificateView}
use Rattle.series_flows.specs.Programmes.{programme_of, lacks_targets}
use Rattle.dual_checker.specs.declared.verdict.Verdict.{Verdict}
use Rattle.dual_checker.specs.declared.verdict.Verdict.TheVariants.{Proves, Negative, Column, Value, Overflow}
use Rattle.dual_checker.specs.declared.reading.CertificateFault.{CertificateFault}
use Rattle.dual_checker.specs.declared.reading.CertificateFault.TheVariants as text
use Rattle.dual_checker.specs.Texts.{certificate_text}
use Rattle.dual_checker.specs.Reading.{certificate_of}
use Rattle.dual_checker.specs.Verdicts.{verdict_of}
use Rattle.planner.specs.declared.fault.PlanFault.{PlanFault}
use Rattle.planner.specs.declared.fault.PlanFault.TheVariants.{NoTargets}
use Rattle.planner.specs.declared.planned.Plan.{Plan}
use Rattle.planner.specs.Prices.{prices_of}
use Rattle.planner.specs.Plans.{fault_of, IsPlan}
use Rattle.text_lines.specs.Lines.{line}
use Rattle.plan_text.specs.Texts.{plan_text}
use Rattle.chunk_tasks.specs.Chunks.{chunk_count}
use Rattle.steady_top.specs.Audits.{IsAudit, IsSound, IsUnsound}
use Rattle.steady_top.specs.Rehearsals.{most_data_bytes, IsRunnable, IsRunReason, IsRehearsal}
use Rattle.steady_top.specs.Refusals.{Reason, Refusal, usage, refused, no_platform, no_ticks, long_certificate, certificate_line, negative_price, uncovered_column, passed_value, check_overflow, long_plan, long_data, cannot_read, no_memory, platform_refusal, timed_refusal, plan_refusal}

-- the file that a command opens first
abbrev pub first_name : Command → List ℕ
first_name (plan name series pivots) = name
first_name (prices name series pivots) = name
first_name (check name certificate series) = name
first_name (audit name other periods) = name
first_name (rehearse name other chunk seed pivots) = name

-- the file that it opens behind it, where it opens two
abbrev pub second_name : Command → List ℕ
second_name (plan name series pivots) = name
second_name (prices name series pivots) = name
second_name (check name certificate series) = certificate
second_name (audit name other periods) = other
second_name (rehearse name other chunk seed pivots) = other

-- how many files a command opens where nothing refuses
abbrev pub files_of : Command → ℕ
files_of (plan name series pivots) = 1
files_of (prices name series pivots) = 1
files_of (check name certificate series) = 2
files_of (audit name other periods) = 2
files_of (rehearse name other chunk seed pivots) = 2

-- how many files it has opened where what was read is refused: a reason of the platform or of its ticks stands behind the first one alone
abbrev pub files_for : Command → Reason → ℕ
files_for command (no_platform fault) = 1
files_for command (no_ticks fault) = 1
files_for command reason = files_of command

-- the program prints these bytes, prints the plan of a platform for a series that is found with at most so many pivots, audits the bytes of
-- a plan over so many periods, rehearses the plan of a platform over data in chunks of a size by a seed, or refuses
pub data Outcome : Type 0 where
  prints : List ℕ → Outcome
  plans : ℕ → TimedView → Series → Outcome
  audits : ℕ → TimedView → List ℕ → Outcome
  rehearses : ℕ → ℕ → ℕ → TimedView → List ℕ → Outcome
  refuses : Refusal → Outcome

-- what comes of a platform that is brought into ticks
abbrev pub with_timed : (TimedView → Outcome) → Result TimedView TimedFault → Outcome
with_timed next (Err fault) = refuses (timed_refusal fault)
with_timed next (Ok t) = next t

-- what comes of a platform that is read
abbrev pub with_platform : (TimedView → Outcome) → Result PlatformView PlatformFault → Outcome
with_platform next (Err fault) = refuses (platform_refusal fault)
with_platform next (Ok p) = with_timed next (timed_of p)

-- what comes of the bytes of a platform file; the length of a longer one is told as one more than the limit
abbrev pub with_file : (TimedView → Outcome) → List ℕ → Outcome
with_file next bytes = cond (nat_lt most_bytes (length bytes)) (refuses (refused (no_platform (Limit Text (most_bytes + 1))))) (with_platform next (platform_of bytes))

-- what comes of what the files hold under the name of a platform file, if there is such a file
abbrev pub with_name : (TimedView → Outcome) → List ℕ → Option (List ℕ) → Outcome
with_name next name None = refuses (cannot_read name)
with_name next name (Some bytes) = with_file next bytes

-- a platform is planned, or there is a fault
abbrev pub planned : ℕ → TimedView → Series → Option PlanFault → Outcome
planned pivots t series None = plans pivots t series
planned pivots t series (Some fault) = refuses (plan_refusal fault)

-- what comes of a platform that is to be planned
abbrev pub plan_of : ℕ → TimedView → Series → Outcome
plan_of pivots t series = planned pivots t series (fault_of pivots t series)

-- the text is that of the platform's plan
pub record IsPlanText (pivots : ℕ) (t : TimedView) (series : Series) (text : List ℕ) : Type 0 where
  pub plan : Plan
  pub is : IsPlan pivots t series plan
  pub is_text : text ≡ plan_text t series plan.table

-- the outcome lets the program print the text
abbrev pub IsPrint : Outcome → List ℕ → Type 0
IsPrint (prints bytes) text = text ≡ bytes
IsPrint (plans pivots t series) text = IsPlanText pivots t series text
IsPrint (audits periods t bytes) text = IsAudit periods t bytes text
IsPrint (rehearses pivots size seed t bytes) text = IsRehearsal pivots size seed t bytes text
IsPrint (refuses refusal) text = ⊥

-- the outcome is no refusal
abbrev pub IsText : Outcome → Type 0
IsText (prints bytes) = Unit {0}
IsText (plans pivots t series) = Unit {0}
IsText (audits periods t bytes) = IsSound periods t bytes
IsText (rehearses pivots size seed t bytes) = IsRunnable pivots t (chunk_count size bytes)
IsText (refuses refusal) = ⊥

-- the outcome is this refusal
abbrev pub IsRefusal : Outcome → Refusal → Type 0
IsRefusal (prints bytes) refusal = ⊥
IsRefusal (plans pivots t series) refusal = ⊥
IsRefusal (audits periods t bytes) (refused reason) = IsUnsound periods t bytes reason
IsRefusal (audits periods t bytes) refusal = ⊥
IsRefusal (rehearses pivots size seed t bytes) (refused reason) = IsRunReason pivots t (chunk_count size bytes) reason
IsRefusal (rehearses pivots size seed t bytes) refusal = ⊥
IsRefusal (refuses other) refusal = other ≡ refusal

-- the text of a certificate, or why there is none; a run over a bounded programme always has an answer
abbrev pub priced : Series → Option (Result CertificateView PlanFault) → Outcome
priced series (Some (Ok c)) = prints (certificate_text series c)
priced series (Some (Err fault)) = refuses (plan_refusal fault)
priced series None = refuses no_memory

-- a platform's certificate of the best rate
abbrev pub certificate_for : ℕ → TimedView → Series → Outcome
certificate_for pivots t series = priced series (prices_of pivots t series)

-- the line of a certificate that proves: its rate in tasks per tick, and the ticks of a time unit
abbrev pub upper_text : TimedView → CertificateView → List ℕ
upper_text t c = line (codes "upper " ++ (signed_decimal c.best ++ (codes " tasks per " ++ (signed_decimal c.scale ++ (codes " ticks, unit " ++ decimal t.unit)))))

-- what a verdict comes to
abbrev pub judged : TimedView → CertificateView → Verdict → Outcome
judged t c Proves = prints (upper_text t c)
judged t c (Negative row) = refuses (refused (negative_price row))
judged t c (Column column) = refuses (refused (uncovered_column column))
judged t c Value = refuses (refused passed_value)
judged t c (Overflow column) = refuses (refused (check_overflow column))

-- a certificate that is read is checked
abbrev pub judged_reading : TimedView → Series → Result CertificateView CertificateFault → Outcome
judged_reading t series (Ok c) = judged t c (verdict_of (programme_of t series) c)
judged_reading t series (Err (text.Line number)) = refuses (refused (certificate_line number))
judged_reading t series (Err text.NoMemory) = refuses no_memory

-- what comes of the bytes of a certificate within its limit; where messages have nowhere to go there is nothing to check
abbrev pub check_of_bytes : TimedView → Series → List ℕ → Outcome
check_of_bytes t series bytes =
    cond (lacks_targets t series) (refuses (plan_refusal NoTargets)) (judged_reading t series (certificate_of series (length (programme_of t series).rows) bytes))

-- what comes of the bytes of a certificate
abbrev pub check_of_file : TimedView → Series → List ℕ → Outcome
check_of_file t series bytes = cond (nat_lt most_bytes (length bytes)) (refuses (refused long_certificate)) (check_of_bytes t series bytes)

-- what the files hold under the name of a certificate, if there is such a file
abbrev pub check_of_name : List ℕ → Option (List ℕ) → Series → TimedView → Outcome
check_of_name name None series t = refuses (cannot_read name)
check_of_name name (Some bytes) series t = check_of_file t series bytes

-- the most bytes of a plan
abbrev pub most_plan_bytes : ℕ
most_plan_bytes = 4194304

-- what comes of the bytes of a plan
abbrev pub audit_of_file : ℕ → TimedView → List ℕ → Outcome
audit_of_file periods t bytes = cond (nat_lt most_plan_bytes (length bytes)) (refuses (refused long_plan)) (audits periods t bytes)

-- what the files hold under the name of a plan, if there is such a file
abbrev pub audit_of_name : List ℕ → ℕ → Option (List ℕ) → TimedView → Outcome
audit_of_name name periods None t = refuses (cannot_read name)
audit_of_name name periods (Some bytes) t = audit_of_file periods t bytes

-- a platform that is planned is rehearsed over some data, or there is a fault
abbrev pub rehearsed : ℕ → ℕ → ℕ → TimedView → List ℕ → Option PlanFault → Outcome
rehearsed pivots size seed t bytes None = rehearses pivots size seed t bytes
rehearsed pivots size seed t bytes (Some fault) = refuses (plan_refusal fault)

-- what comes of the bytes of data within their limit
abbrev pub rehearse_of_bytes : ℕ → ℕ → ℕ → TimedView → List ℕ → Outcome
rehearse_of_bytes pivots size seed t bytes = rehearsed pivots size seed t bytes (fault_of pivots t Tasking)

-- what comes of the bytes of data
abbrev pub rehearse_of_file : ℕ → ℕ → ℕ → TimedView → List ℕ → Outcome
rehearse_of_file pivots size seed t bytes =
    cond (nat_lt most_data_bytes (length bytes)) (refuses (refused long_data)) (rehearse_of_bytes pivots size seed t bytes)

-- what the files hold under the name of data, if there is such a file
abbrev pub rehearse_of_name : List ℕ → ℕ → ℕ → ℕ → Option (List ℕ) → TimedView → Outcome
rehearse_of_name name pivots size seed None t = refuses (cannot_read name)
rehearse_of_name name pivots size seed (Some bytes) t = rehearse_of_file pivots size seed t bytes

-- what comes of a platform in ticks and of the second file
abbrev pub work_of : Command → Option (List ℕ) → TimedView → Outcome
work_of (plan name series pivots) second t = plan_of pivots t series
work_of (prices name series pivots) second t = certificate_for pivots t series
work_of (check name certificate series) second t = check_of_name certificate second series t
work_of (audit name other periods) second t = audit_of_name other periods second t
work_of (rehearse name other chunk seed pivots) second t = rehearse_of_name other pivots chunk seed second t

-- what comes of a command, of what its first name holds and of what its second one holds
abbrev pub outcome_for : Command → Option (List ℕ) → Option (List ℕ) → Outcome
outcome_for command first second = with_name (work_of command second) (first_name command) first

-- what comes of the words' command, where each name holds these contents
abbrev pub outcome_of_command : (List ℕ → Option (List ℕ)) → Option Command → Outcome
outcome_of_command files None = refuses usage
outcome_of_command files (Some command) = outcome_for command (files (first_name command)) (files (second_name command))

-- what the program answers
abbrev pub outcome_of : List (List ℕ) → (List ℕ → Option (List ℕ)) → Outcome
outcome_of words files = outcome_of_command files (command_of words)
