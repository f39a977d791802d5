-- What an answer of the program says of the words, the files and the sink (this project).
use Rattle.std.specs.Prelude.{◌≡◌, ℕ, ◌*◌, false, nat_abs, List, length, map, Option, Some, None, Ok, ◌⊎◌, String, string_bytes}
use Rattle.std.specs.declared.alloc.Global.{Global}
use Rattle.outside_io.specs.Files.{Told, untold, absent, contents, FilesView, HasCause}
use Rattle.outside_io.specs.Faults.{Rose, raised}
use Rattle.outside_io.specs.Sinks.{SinkView, IsWholeWritten, IsCutOff}
use Rattle.platform_file.specs.Platform.{PlatformView}
use Rattle.platform_file.specs.Reading.{platform_of}
use Rattle.platform_file.specs.Ticks.{TimedView, timed_of}
use Rattle.schedule_model.specs.declared.schedule.Series.{Series}
use Rattle.schedule_model.specs.declared.schedule.Series.TheVariants.{Tasking}
use Rattle.schedule_model.specs.Throughput.{IsUpperRate}
use Rattle.linear_program.specs.Certificates.{CertificateView}
use Rattle.series_flows.specs.Programmes.{programme_of, lacks_targets}
use Rattle.dual_checker.specs.declared.verdict.Verdict.TheVariants.{Proves}
use Rattle.dual_checker.specs.Reading.{certificate_of}
use Rattle.dual_checker.specs.Texts.{certificate_text}
use Rattle.dual_checker.specs.Verdicts.{verdict_of}
use Rattle.planner.specs.declared.planned.Plan.{Plan}
use Rattle.planner.specs.Prices.{prices_of, IsBestCertificate}
use Rattle.planner.specs.Plans.{IsPlan}
use Rattle.steady_top.specs.declared.status.Status.{Status}
use Rattle.steady_top.specs.declared.status.Status.TheVariants as status
use Rattle.period_table.specs.Best.{IsBest}
use Rattle.plan_text.specs.Texts.{plan_text}
use Rattle.steady_top.specs.Refusals.{Reason, Refusal, usage, refused, cannot_read, no_memory, reason_status, status_of, error_line}
use Rattle.command_words.specs.Words.{Command, plan, prices, check, audit, rehearse, command_of}
use Rattle.steady_top.specs.Audits.{IsAudit}
use Rattle.steady_top.specs.Rehearsals.{IsRehearsal}
use Rattle.steady_top.specs.Outcomes.{first_name, second_name, files_of, files_for, upper_text, Outcome, IsPrint, IsRefusal, with_file, outcome_for}

-- this may be what a name holds of which that is told
abbrev pub MayBe : Told → Option (List ℕ) → Type 0
MayBe untold file = Unit {0}
MayBe absent file = file ≡ None
MayBe (contents bytes) file = file ≡ Some bytes

-- this is told to be what a name holds
abbrev pub IsToldAs : Told → Option (List ℕ) → Type 0
IsToldAs untold file = ⊥
IsToldAs absent file = file ≡ None
IsToldAs (contents bytes) file = file ≡ Some bytes

-- the files tell what a command's names hold, and it is this
abbrev pub AreNamesToldAs : FilesView → Command → (List ℕ → Option (List ℕ)) → Type 0
AreNamesToldAs before command files =
    IsToldAs (before.held (first_name command)) (files (first_name command)) × IsToldAs (before.held (second_name command)) (files (second_name command))

-- the files tell what the names of the words' command hold, and it is this; nothing is asked of other names
abbrev pub AreToldAs : FilesView → List (List ℕ) → (List ℕ → Option (List ℕ)) → Type 0
AreToldAs before words files = (command : Command) → command_of words ≡ Some command → AreNamesToldAs before command files

-- a command comes to this, with what its names may hold
pub record ComesTo (command : Command) (before : FilesView) (outcome : Outcome) : Type 0 where
  pub first : Option (List ℕ)
  pub second : Option (List ℕ)
  pub first_told : MayBe (before.held (first_name command)) first
  pub second_told : MayBe (before.held (second_name command)) second
  pub is : outcome_for command first second ≡ outcome

-- the platform of what a name may hold, in ticks
pub record IsPlatformOf (before : FilesView) (name : List ℕ) (t : TimedView) : Type 0 where
  pub bytes : List ℕ
  pub file : MayBe (before.held name) (Some bytes)
  pub platform : PlatformView
  pub read : platform_of bytes ≡ Ok platform
  pub in_ticks : timed_of platform ≡ Ok t

-- the text is the plan of the platform of the file's bytes for the series, whose table is best
pub record IsBestText (pivots : ℕ) (series : Series) (before : FilesView) (name text : List ℕ) : Type 0 where
  pub timed : TimedView
  pub platform : IsPlatformOf before name timed
  pub plan : Plan
  pub made : IsPlan pivots timed series plan
  pub best : IsBest timed series plan.table
  pub is_plan : text ≡ plan_text timed series plan.table

-- the text is the certificate of the best rate of the series on the platform of the file's bytes, which no schedule exceeds
pub record IsPricedText (pivots : ℕ) (series : Series) (before : FilesView) (name text : List ℕ) : Type 0 where
  pub timed : TimedView
  pub platform : IsPlatformOf before name timed
  pub certificate : CertificateView
  pub run : prices_of pivots timed series ≡ Some (Ok certificate)
  pub best : IsBestCertificate pivots timed series certificate
  pub rate : IsUpperRate timed series (nat_abs certificate.best * timed.unit) (nat_abs certificate.scale)
  pub is_certificate : text ≡ certificate_text series certificate

-- the text has the rate of the certificate of the series that the second file's bytes are, which proves that no schedule exceeds it; a scatter
-- has a target
pub record IsCheckedText (series : Series) (before : FilesView) (name second text : List ℕ) : Type 0 where
  pub timed : TimedView
  pub some_target : lacks_targets timed series ≡ false
  pub platform : IsPlatformOf before name timed
  pub bytes : List ℕ
  pub file : MayBe (before.held second) (Some bytes)
  pub certificate : CertificateView
  pub read : certificate_of series (length (programme_of timed series).rows) bytes ≡ Ok certificate
  pub proves : verdict_of (programme_of timed series) certificate ≡ Proves
  pub rate : IsUpperRate timed series (nat_abs certificate.best * timed.unit) (nat_abs certificate.scale)
  pub is_line : text ≡ upper_text timed certificate

-- the text has the numbers of the plan that the second file's bytes are, over so many periods: its schedule is well-formed, one-port and
-- supplied
pub record IsAuditedText (periods : ℕ) (before : FilesView) (name second text : List ℕ) : Type 0 where
  pub timed : TimedView
  pub platform : IsPlatformOf before name timed
  pub bytes : List ℕ
  pub file : MayBe (before.held second) (Some bytes)
  pub audit : IsAudit periods timed bytes text

-- the text is that of the plan of the platform of the file's bytes, whose table is best, and of its run over the second file's bytes in chunks
-- of a size: of the table's wiring a complete legal history, in which the seed chooses each event, the digest of each chunk and the tasks that
-- each node computes
pub record IsRehearsedText (pivots size seed : ℕ) (before : FilesView) (name second text : List ℕ) : Type 0 where
  pub timed : TimedView
  pub platform : IsPlatformOf before name timed
  pub bytes : List ℕ
  pub file : MayBe (before.held second) (Some bytes)
  pub rehearsal : IsRehearsal pivots size seed timed bytes text
  pub best : IsBest timed Tasking rehearsal.runnable.plan.table

-- what a command's text claims
abbrev pub IsClaim : Command → FilesView → List ℕ → Type 0
IsClaim (plan name series pivots) before text = IsBestText pivots series before name text
IsClaim (prices name series pivots) before text = IsPricedText pivots series before name text
IsClaim (check name second series) before text = IsCheckedText series before name second text
IsClaim (audit name other periods) before text = IsAuditedText periods before name other text
IsClaim (rehearse name other chunk seed pivots) before text = IsRehearsedText pivots chunk seed before name other text

-- in a call so many opens were made, as far as their count goes
abbrev pub AreOpened : ℕ → FilesView → FilesView → Type 0
AreOpened count before after = after.opens ≡ raised before.opens count

-- a command comes to a refusal, behind the files that are read for it
pub record IsRefusedFor (command : Command) (before after : FilesView) (reason : Reason) : Type 0 where
  pub outcome : Outcome
  pub comes : ComesTo command before outcome
  pub refusal : IsRefusal outcome (refused reason)
  pub opens : AreOpened (files_for command reason) before after

-- a command's text is due, where no call of the files failed, and is what it claims; each of the command's files was opened once
pub record IsMade (command : Command) (before after : FilesView) (text : List ℕ) : Type 0 where
  pub outcome : Outcome
  pub comes : ComesTo command before outcome
  pub due : IsPrint outcome text
  pub claim : IsClaim command before text
  pub calm : after.faults ≡ before.faults
  pub opens : AreOpened (files_of command) before after

-- the first file of a command couldn't be opened or read, in the one open of the call
pub record IsFirstUnread (command : Command) (before after : FilesView) (name : List ℕ) : Type 0 where
  pub is_first : name ≡ first_name command
  pub cause : HasCause before name after
  pub opens : AreOpened 1 before after

-- behind a platform that was read, a command opens its second file
pub record IsBehindPlatform (command : Command) (before : FilesView) : Type 0 where
  pub two : files_of command ≡ 2
  pub timed : TimedView
  pub platform : IsPlatformOf before (first_name command) timed
  pub short : (next : TimedView → Outcome) → with_file next platform.bytes ≡ next timed

-- behind it, the second file of a command couldn't be opened or read, in the second open of the call
pub record IsSecondUnread (command : Command) (before after : FilesView) (name : List ℕ) : Type 0 where
  pub is_second : name ≡ second_name command
  pub behind : IsBehindPlatform command before
  pub cause : HasCause before name after
  pub opens : AreOpened 2 before after

-- memory ran out without a fault of the files, behind the first file or, where a platform was read, behind the second
pub record IsOutOfMemory (command : Command) (before after : FilesView) : Type 0 where
  pub calm : after.faults ≡ before.faults
  pub opened : AreOpened 1 before after ⊎ (IsBehindPlatform command before × AreOpened 2 before after)

-- why a command is refused; memory may run out at any time
abbrev pub IsCauseFor : Command → FilesView → FilesView → Refusal → Type 0
IsCauseFor command before after (cannot_read name) = IsFirstUnread command before after name ⊎ IsSecondUnread command before after name
IsCauseFor command before after no_memory = IsOutOfMemory command before after
IsCauseFor command before after usage = ⊥
IsCauseFor command before after (refused reason) = IsRefusedFor command before after reason

-- the words give a command of which this holds
pub record IsOfCommand (words : List (List ℕ)) (P : Command → Type 0) : Type 0 where
  pub command : Command
  pub given : command_of words ≡ Some command
  pub holds : P command

-- a refusal with its cause; where the words are no command, or memory ran out before one is known, the files are as they were
abbrev pub IsCause : List (List ℕ) → FilesView → FilesView → Refusal → Type 0
IsCause words before after usage = (command_of words ≡ None) × (after ≡ before)
IsCause words before after no_memory = (after ≡ before) ⊎ IsOfCommand words (λ command. IsCauseFor command before after no_memory)
IsCause words before after refusal = IsOfCommand words (λ command. IsCauseFor command before after refusal)

-- the cause of an error line: its refusal's, or that there was no memory for the line of a refusal with its cause
abbrev pub IsLineCause : List (List ℕ) → FilesView → FilesView → Refusal → Type 0
IsLineCause words before after no_memory = (refusal : Refusal) × IsCause words before after refusal
IsLineCause words before after refusal = IsCause words before after refusal

-- a text that is due to the words, and what it is
abbrev pub IsAnswer : List (List ℕ) → FilesView → FilesView → List ℕ → Type 0
IsAnswer words before after text = IsOfCommand words (λ command. IsMade command before after text)

-- a call of the program: its words, and what is known of the files and of the sink before it and after it
pub record Call : Type 0 where
  pub words : List (List ℕ)
  pub before : FilesView
  pub after : FilesView
  pub out_before : SinkView
  pub out_after : SinkView

-- a call with these words, as the code keeps them
abbrev pub call_of : List (String Global) → FilesView → FilesView → SinkView → SinkView → Call
call_of words before after out_before out_after = record { words = map string_bytes words; before = before; after = after; out_before = out_before; out_after = out_after }

-- a text was printed whole, as it was to be, and is what it claims
pub record IsPrinted (call : Call) : Type 0 where
  pub text : List ℕ
  pub answer : IsAnswer call.words call.before call.after text
  pub written : IsWholeWritten call.out_before text call.out_after

-- the error line of a refusal was written whole, and the refusal has its cause
pub record IsRefused (call : Call) (refusal : Refusal) : Type 0 where
  pub cause : IsLineCause call.words call.before call.after refusal
  pub written : IsWholeWritten call.out_before (error_line refusal) call.out_after

-- a refusal's error line, with its cause
pub record IsDueLine (call : Call) (text : List ℕ) : Type 0 where
  pub refusal : Refusal
  pub cause : IsLineCause call.words call.before call.after refusal
  pub is_line : text ≡ error_line refusal

-- a write failed, and a prefix of the text is out
pub record IsCutShort (call : Call) : Type 0 where
  pub text : List ℕ
  pub due : IsAnswer call.words call.before call.after text ⊎ IsDueLine call text
  pub cut : IsCutOff call.out_before text call.out_after

-- what was read was refused for a reason of this status
pub record IsRefusedWith (due : Status) (call : Call) : Type 0 where
  pub reason : Reason
  pub is : reason_status reason ≡ due
  pub refusal : IsRefused call (refused reason)

-- no fault of the files or of the sink occurred
pub record IsCalm (call : Call) : Type 0 where
  pub files : Rose call.before.faults call.after.faults → ⊥
  pub out : Rose call.out_before.faults call.out_after.faults → ⊥

-- the text that is due was written, with its status, or a write failed
abbrev pub Ends : Status → List ℕ → SinkView → SinkView → Status → Type 0
Ends due text before after result = ((result ≡ due) × IsWholeWritten before text after) ⊎ ((result ≡ status.WriteFault) × IsCutOff before text after)

-- a text was to be printed
pub record IsPrintAttempt (call : Call) (result : Status) : Type 0 where
  pub text : List ℕ
  pub answer : IsAnswer call.words call.before call.after text
  pub ends : Ends status.Done text call.out_before call.out_after result

-- a refusal's error line was to be written
pub record IsRefusalAttempt (call : Call) (result : Status) : Type 0 where
  pub refusal : Refusal
  pub cause : IsLineCause call.words call.before call.after refusal
  pub ends : Ends (status_of refusal) (error_line refusal) call.out_before call.out_after result

-- the program ends in one of these ways
abbrev pub IsResponse : Call → Status → Type 0
IsResponse call result = IsPrintAttempt call result ⊎ IsRefusalAttempt call result

-- the fact holds of the one or the other
abbrev pub IsOneOf : Refusal → Refusal → (Refusal → Type 0) → Type 0
IsOneOf refusal other P = P refusal ⊎ P other
