-- What the work of each command comes to, from what was read of its files.
use Rattle.std.proofs.Common.{◌≡◌, ◌∙◌, ℕ, suc, ◌+◌, option_and_then, ◌<◌, ◌≤◌, nat_lt, Bool, true, false, cond, List, [], ◌∷◌, ◌++◌, length, replicate, Option, Some, None, Result, Ok, Err, MatchResult, refl, sym, ap, subst, arith, inl, inr}
use Rattle.std.proofs.lemmas.Bool.{lt-ltb, le-ltb}
use Rattle.std.proofs.lemmas.List.{length-replicate, append_assoc}
use Rattle.std.specs.Result.{IsErr, IsErrAnd}
use Rattle.text_lines.specs.Lines.{line}
use Rattle.outside_io.specs.Files.{Told, untold, absent, contents, FilesView, MayFail, HasCause}
use Rattle.outside_io.specs.Faults.{raised}
use Rattle.outside_io.specs.Reading.{MayHold, MayPass, IsWholeRead}
use Rattle.platform_file.specs.declared.fault.Kind.TheVariants.{Text}
use Rattle.platform_file.specs.Platform.{PlatformView}
use Rattle.platform_file.specs.Reading.{most_bytes, platform_of, IsFaultOf}
use Rattle.platform_file.specs.declared.fault.PlatformFault.{PlatformFault}
use Rattle.platform_file.specs.declared.fault.PlatformFault.TheVariants as fault
use Rattle.platform_file.specs.declared.fault.TimedFault.{TimedFault}
use Rattle.platform_file.specs.declared.fault.TimedFault.TheVariants as timed_fault
use Rattle.platform_file.specs.Ticks.{TimedView, IsTimed, timed_of, IsTimedFault}
use Rattle.linear_program.specs.Certificates.{CertificateView}
use Rattle.planner.specs.declared.fault.PlanFault.{PlanFault}
use Rattle.planner.specs.declared.fault.PlanFault.TheVariants as plans
use Rattle.planner.specs.Prices.{prices_of}
use Rattle.period_table.specs.Best.{IsBest}
use Rattle.planner.specs.Plans.{fault_of_scale, fault_of_answer, fault_of, IsPlan}
use Rattle.schedule_model.specs.declared.schedule.Series.{Series}
use Rattle.schedule_model.specs.declared.schedule.Series.TheVariants.{Tasking}
use Rattle.series_flows.specs.Programmes.{programme_of, lacks_targets}
use Rattle.dual_checker.specs.declared.verdict.Verdict.{Verdict}
use Rattle.dual_checker.specs.declared.verdict.Verdict.TheVariants.{Proves, Negative, Column, Value, Overflow}
use Rattle.dual_checker.specs.declared.reading.CertificateFault.{CertificateFault}
use Rattle.dual_checker.specs.declared.reading.CertificateFault.TheVariants as text
use Rattle.dual_checker.specs.Reading.{certificate_of}
use Rattle.dual_checker.specs.Verdicts.{verdict_of}
use Rattle.chunk_tasks.specs.Chunks.{chunk_count}
use Rattle.planner.specs.declared.planned.Plan.{Plan}
use Rattle.steady_top.specs.Rehearsals.{most_data_bytes}
use Rattle.steady_top.specs.Refusals.{Reason, no_platform, long_certificate, long_plan, long_data, Refusal, usage, refused, cannot_read, no_memory, platform_refusal, timed_refusal, plan_refusal}
use Rattle.command_words.specs.Words.{Command, plan, prices, check, audit, rehearse}
use Rattle.steady_top.specs.Audits.{IsReason}
use Rattle.steady_top.specs.Outcomes.{first_name, second_name, files_of, files_for, Outcome, prints, plans as plans_of, audits, rehearses, refuses, IsRefusal, with_timed, with_platform, with_file, planned, priced, plan_of, certificate_for, judged, judged_reading, check_of_bytes, check_of_file, most_plan_bytes, audit_of_file, rehearsed, rehearse_of_bytes, rehearse_of_file, work_of}
use Rattle.steady_top.specs.Answers.{MayBe, ComesTo, AreOpened, IsMade, IsRefusedFor, IsCauseFor}
use Rattle.steady_top.specs.Planned.{IsUnread, IsPlatformRead, IsPlatformFault, IsSecondRead, IsSecondFault, MayRefuse, IsBestPlan, IsBestPrices, IsProved, IsChecked, IsAuditFault, IsAudited, IsTableFault, IsRunOf, IsBestRehearsal, IsRehearsalFault, IsRehearsedOver}

-- the bytes that were read may be what is told
pub read_may_be : (told : Told) (bytes : List ℕ) → MayHold told bytes → MayBe told (Some bytes)
read_may_be untold bytes h = tt
read_may_be absent bytes h = absurd h
read_may_be (contents file) bytes h = ap Some h

more_zeros : (most : ℕ) → most < length {A = ℕ} (replicate (suc most) 0)
more_zeros most = let as_many : length {A = ℕ} (replicate (suc most) 0) ≡ suc most = length-replicate (suc most) 0 in rw as_many (omega arith)

-- a file that may have more bytes than so many
pub longer : (told : Told) (most : ℕ) → MayPass told most → (bytes : List ℕ) × MayBe told (Some bytes) × (most < length bytes)
longer untold most h = (replicate (suc most) 0, tt, more_zeros most)
longer absent most h = absurd h
longer (contents file) most h = (file, refl, h)

pub longer_is_refused : (next : TimedView → Outcome) (bytes : List ℕ) → most_bytes < length bytes → with_file next bytes ≡ refuses (refused (no_platform (fault.Limit Text (most_bytes + 1))))
longer_is_refused next bytes h = rw (lt-ltb most_bytes (length bytes) h) refl

pub whole_is_read : (next : TimedView → Outcome) (bytes : List ℕ) (read : Result PlatformView PlatformFault) → length bytes ≤ most_bytes → platform_of bytes ≡ read →
    with_file next bytes ≡ with_platform next read
whole_is_read next bytes read h is =
    let short : nat_lt most_bytes (length bytes) ≡ false = le-ltb most_bytes (length bytes) h in
    ap (λ long. cond long (refuses (refused (no_platform (fault.Limit Text (most_bytes + 1))))) (with_platform next (platform_of bytes))) short ∙ ap (with_platform next) is

pub read_is_next : (next : TimedView → Outcome) (bytes : List ℕ) (p : PlatformView) (t : TimedView) → length bytes ≤ most_bytes → platform_of bytes ≡ Ok p → timed_of p ≡ Ok t →
    with_file next bytes ≡ next t
read_is_next next bytes p t h read in_ticks = whole_is_read next bytes (Ok p) h read ∙ ap (with_timed next) in_ticks

-- two opens in turn
raised_twice : (before middle after : ℕ) → middle ≡ raised before 1 → after ≡ raised middle 1 → after ≡ raised before 2
raised_twice before middle after e f = f ∙ rw e (omega arith)

-- how many files a command has opened where an outcome refuses what was read, and else all of its files
abbrev opened : Command → Outcome → ℕ
opened command (refuses (refused reason)) = files_for command reason
opened command other = files_of command

-- the fault of a platform file, or of its ticks, is why it isn't read
module _ (before after : FilesView) (name bytes : List ℕ) (file : MayBe (before.held name) (Some bytes)) (short : length bytes ≤ most_bytes) (opens : AreOpened 1 before after) (calm : after.faults ≡ before.faults) where
  for_reason : (fault : PlatformFault) (refusal : Refusal) (reason : Reason) → platform_of bytes ≡ Err fault → refusal ≡ platform_refusal fault → platform_refusal fault ≡ refused reason → ((command : Command) → files_for command reason ≡ 1) →
      IsPlatformFault before name after refusal
  for_reason fault refusal reason read is named first =
      rw (is ∙ named) (record { opens = opens; cause = record { bytes = bytes; file = file; outcome = λ next. whole_is_read next bytes (Err fault) short read ∙ ap refuses named; first = first } })

  pub fault_is_platform : (fault : PlatformFault) (refusal : Refusal) → IsFaultOf fault (platform_of bytes) → refusal ≡ platform_refusal fault → IsPlatformFault before name after refusal
  fault_is_platform (fault.Limit kind found) refusal read is = for_reason (fault.Limit kind found) refusal (no_platform (fault.Limit kind found)) read is refl (λ command. refl)
  fault_is_platform fault.NotToml refusal read is = for_reason fault.NotToml refusal (no_platform fault.NotToml) read is refl (λ command. refl)
  fault_is_platform (fault.BadField place) refusal read is = for_reason (fault.BadField place) refusal (no_platform (fault.BadField place)) read is refl (λ command. refl)
  fault_is_platform (fault.TwiceNamed node) refusal read is = for_reason (fault.TwiceNamed node) refusal (no_platform (fault.TwiceNamed node)) read is refl (λ command. refl)
  fault_is_platform (fault.Unknown place) refusal read is = for_reason (fault.Unknown place) refusal (no_platform (fault.Unknown place)) read is refl (λ command. refl)
  fault_is_platform (fault.TargetIsMaster target) refusal read is = for_reason (fault.TargetIsMaster target) refusal (no_platform (fault.TargetIsMaster target)) read is refl (λ command. refl)
  fault_is_platform (fault.TargetTwice target) refusal read is = for_reason (fault.TargetTwice target) refusal (no_platform (fault.TargetTwice target)) read is refl (λ command. refl)
  fault_is_platform (fault.SelfLink link) refusal read is = for_reason (fault.SelfLink link) refusal (no_platform (fault.SelfLink link)) read is refl (λ command. refl)
  fault_is_platform (fault.TwiceLinked link) refusal read is = for_reason (fault.TwiceLinked link) refusal (no_platform (fault.TwiceLinked link)) read is refl (λ command. refl)
  fault_is_platform (fault.BadRatio place cause) refusal read is = for_reason (fault.BadRatio place cause) refusal (no_platform (fault.BadRatio place cause)) read is refl (λ command. refl)
  fault_is_platform fault.NoMemory refusal read is = rw is (record { opens = opens; cause = calm })

  pub fault_is_timed : (p : PlatformView) (fault : TimedFault) (refusal : Refusal) → platform_of bytes ≡ Ok p → IsTimedFault fault (timed_of p) → refusal ≡ timed_refusal fault →
      IsPlatformFault before name after refusal
  fault_is_timed p (timed_fault.Unit left right) refusal read in_ticks is =
      rw is (record { opens = opens; cause = record { bytes = bytes; file = file; outcome = λ next. whole_is_read next bytes (Ok p) short read ∙ ap (with_timed next) in_ticks; first = λ command. refl } })
  fault_is_timed p timed_fault.NoMemory refusal read in_ticks is = rw is (record { opens = opens; cause = calm })

-- a platform file whose bytes aren't read
pub unread_is_platform : (before after : FilesView) (name : List ℕ) (refusal : Refusal) → IsUnread before name most_bytes (refused (no_platform (fault.Limit Text (most_bytes + 1)))) after refusal → IsPlatformFault before name after refusal
unread_is_platform before after name refusal unread = elim unread.cause [
  | inl w ↦ rw w.0 (record { opens = unread.opens; cause = record { same = refl; cause = w.1 } })
  | inr (inl w) ↦
      let file = longer (before.held name) most_bytes w.1 in
      rw w.0 (record { opens = unread.opens; cause = record { bytes = file.0; file = file.1; outcome = λ next. longer_is_refused next file.0 file.2; first = λ command. refl } })
  | inr (inr w) ↦ rw w.0 (record { opens = unread.opens; cause = w.1 })
]

-- something that may be told
abbrev chosen : Told → Option (List ℕ)
chosen untold = None
chosen absent = None
chosen (contents file) = Some file

chosen_may_be : (told : Told) → MayBe told (chosen told)
chosen_may_be untold = tt
chosen_may_be absent = refl
chosen_may_be (contents file) = refl

-- what comes of a platform that was read comes of the command
pub comes_of : (command : Command) (before after : FilesView) (t : TimedView) (second : Option (List ℕ)) (outcome : Outcome) → IsPlatformRead before (first_name command) after t →
    MayBe (before.held (second_name command)) second → work_of command second t ≡ outcome → ComesTo command before outcome
comes_of command before after t second outcome read told is = record {
  first = Some read.platform.bytes;
  second = second;
  first_told = read.platform.file;
  second_told = told;
  is = read.short (work_of command second) ∙ is;
}

-- as many files were opened as a reason needs
opened_for : (command : Command) (before after : FilesView) (reason : Reason) {count : ℕ} → files_for command reason ≡ count → AreOpened count before after → AreOpened (files_for command reason) before after
opened_for command before after reason e opens = subst (λ count. AreOpened count before after) (sym e) opens

-- what a command comes to where it refuses behind its first file
refused_for_reason : (command : Command) (before after : FilesView) (reason : Reason) → ComesTo command before (refuses (refused reason)) → files_for command reason ≡ 1 → AreOpened 1 before after → IsRefusedFor command before after reason
refused_for_reason command before after reason comes first opens =
    record { outcome = refuses (refused reason); comes = comes; refusal = refl; opens = opened_for command before after reason first opens }

-- why a platform file isn't read is why the command is refused
pub platform_fault : (command : Command) (before after : FilesView) (refusal : Refusal) → IsPlatformFault before (first_name command) after refusal → IsCauseFor command before after refusal
platform_fault command before after usage fault = absurd fault.cause
platform_fault command before after (refused reason) fault = refused_for_reason command before after reason (record {
  first = Some fault.cause.bytes;
  second = chosen (before.held (second_name command));
  first_told = fault.cause.file;
  second_told = chosen_may_be (before.held (second_name command));
  is = fault.cause.outcome (work_of command (chosen (before.held (second_name command))));
}) (fault.cause.first command) fault.opens
platform_fault command before after (cannot_read named) fault =
    inl (record { is_first = fault.cause.same; cause = subst (λ name. HasCause before name after) (sym fault.cause.same) fault.cause.cause; opens = fault.opens })
platform_fault command before after no_memory fault = record { calm = fault.cause; opened = inl fault.opens }

-- a fault of the planner is why an outcome refuses
pub planner_refuses : (outcome : Outcome) (fault : PlanFault) (refusal : Refusal) → ((fault ≡ plans.NoMemory → ⊥) → outcome ≡ refuses (plan_refusal fault)) → refusal ≡ plan_refusal fault → MayRefuse outcome refusal
planner_refuses outcome plans.NoTargets refusal exact is = rw is (exact (λ e. cc))
planner_refuses outcome (plans.Pivot pivots row column) refusal exact is = rw is (exact (λ e. cc))
planner_refuses outcome (plans.Spent allowed) refusal exact is = rw is (exact (λ e. cc))
planner_refuses outcome (plans.Period step left right) refusal exact is = rw is (exact (λ e. cc))
planner_refuses outcome plans.NoMemory refusal exact is = rw is tt

-- what the work on a platform that was read refuses is why the command is refused
refused_is_cause : (command : Command) (before after : FilesView) (t : TimedView) (second : Option (List ℕ)) → IsPlatformRead before (first_name command) after t → MayBe (before.held (second_name command)) second →
    opened command (work_of command second t) ≡ 1 → (refusal : Refusal) → MayRefuse (work_of command second t) refusal → IsCauseFor command before after refusal
refused_is_cause command before after t second read told first usage is = absurd is
refused_is_cause command before after t second read told first (refused reason) is =
    refused_for_reason command before after reason (comes_of command before after t second (refuses (refused reason)) read told is) (sym (ap (opened command) is) ∙ first) read.opens
refused_is_cause command before after t second read told first (cannot_read name) is = absurd is
refused_is_cause command before after t second read told first no_memory is = record { calm = read.calm; opened = inl read.opens }

first_of_plan : (name : List ℕ) (series : Series) (pivots : ℕ) (t : TimedView) (fault : Option PlanFault) → opened (plan name series pivots) (planned pivots t series fault) ≡ 1
first_of_plan name series pivots t None = refl
first_of_plan name series pivots t (Some plans.NoTargets) = refl
first_of_plan name series pivots t (Some (plans.Pivot made row column)) = refl
first_of_plan name series pivots t (Some (plans.Spent allowed)) = refl
first_of_plan name series pivots t (Some (plans.Period step left right)) = refl
first_of_plan name series pivots t (Some plans.NoMemory) = refl

first_of_prices : (name : List ℕ) (series : Series) (pivots : ℕ) (found : Option (Result CertificateView PlanFault)) → opened (prices name series pivots) (priced series found) ≡ 1
first_of_prices name series pivots None = refl
first_of_prices name series pivots (Some (Ok c)) = refl
first_of_prices name series pivots (Some (Err plans.NoTargets)) = refl
first_of_prices name series pivots (Some (Err (plans.Pivot made row column))) = refl
first_of_prices name series pivots (Some (Err (plans.Spent allowed))) = refl
first_of_prices name series pivots (Some (Err (plans.Period step left right))) = refl
first_of_prices name series pivots (Some (Err plans.NoMemory)) = refl

pub unplanned_is_cause : (before after : FilesView) (name : List ℕ) (series : Series) (pivots : ℕ) (t : TimedView) → IsPlatformRead before name after t → (refusal : Refusal) → MayRefuse (plan_of pivots t series) refusal →
    IsCauseFor (plan name series pivots) before after refusal
unplanned_is_cause before after name series pivots t read =
    refused_is_cause (plan name series pivots) before after t (Some read.platform.bytes) read read.platform.file (first_of_plan name series pivots t (fault_of pivots t series))

pub unpriced_is_cause : (before after : FilesView) (name : List ℕ) (series : Series) (pivots : ℕ) (t : TimedView) → IsPlatformRead before name after t → (refusal : Refusal) → MayRefuse (certificate_for pivots t series) refusal →
    IsCauseFor (prices name series pivots) before after refusal
unpriced_is_cause before after name series pivots t read =
    refused_is_cause (prices name series pivots) before after t (Some read.platform.bytes) read read.platform.file (first_of_prices name series pivots (prices_of pivots t series))

-- a platform with a plan has no fault
no_fault : (most : ℕ) (t : TimedView) (series : Series) (p : Plan) → IsPlan most t series p → fault_of most t series ≡ None
no_fault most t series p made = ap (option_and_then (fault_of_answer t series)) made.solved ∙ ap fault_of_scale made.made.routed.scaled

-- a plan that is found is what the command prints
pub planned_is_made : (before after : FilesView) (name : List ℕ) (series : Series) (most : ℕ) (t : TimedView) (text : List ℕ) → IsPlatformRead before name after t → IsBestPlan most t series text →
    IsMade (plan name series most) before after text
planned_is_made before after name series most t text read found = record {
  outcome = plans_of most t series;
  comes = comes_of (plan name series most) before after t (Some read.platform.bytes) (plans_of most t series) read read.platform.file (ap (planned most t series) none);
  due = record { plan = found.plan; is = found.made; is_text = found.is_plan };
  claim = record { timed = t; platform = read.platform; plan = found.plan; made = found.made; best = found.best; is_plan = found.is_plan };
  calm = read.calm;
  opens = read.opens;
}
  where
    none : fault_of most t series ≡ None
    none = no_fault most t series found.plan found.made

-- prices that are found are what the command prints
pub priced_is_made : (before after : FilesView) (name : List ℕ) (series : Series) (most : ℕ) (t : TimedView) (text : List ℕ) → IsPlatformRead before name after t → IsBestPrices most t series text →
    IsMade (prices name series most) before after text
priced_is_made before after name series most t text read found = record {
  outcome = prints text;
  comes = comes_of (prices name series most) before after t (Some read.platform.bytes) (prints text) read read.platform.file (ap (priced series) found.run ∙ ap prints (sym found.is_certificate));
  due = refl;
  claim = record { timed = t; platform = read.platform; certificate = found.certificate; run = found.run; best = found.best; rate = found.rate; is_certificate = found.is_certificate };
  calm = read.calm;
  opens = read.opens;
}

-- what is told of a name, behind a file that was read
told_before : (before middle : FilesView) (name : List ℕ) (t : TimedView) (second : List ℕ) (file : Option (List ℕ)) → IsPlatformRead before name middle t → MayBe (middle.held second) file →
    MayBe (before.held second) file
told_before before middle name t second file read may = subst (λ told. MayBe told file) (read.held second) may

-- the bytes of a second file
pub second_read : (before after : FilesView) (name : List ℕ) (most : ℕ) (bytes : List ℕ) → IsWholeRead before name most bytes after → IsSecondRead before name most after bytes
second_read before after name most bytes read = record { file = read_may_be (before.held name) bytes read.file; size = read.within; calm = read.faults; opens = read.one_open.opens }

-- a second file whose bytes aren't read
pub unread_is_second : (outcome : List ℕ → Outcome) (before after : FilesView) (name : List ℕ) (most : ℕ) (long : Reason) → ((bytes : List ℕ) → most < length bytes → outcome bytes ≡ refuses (refused long)) → ((command : Command) → files_for command long ≡ files_of command) →
    (refusal : Refusal) → IsUnread before name most (refused long) after refusal → IsSecondFault outcome before name after refusal
unread_is_second outcome before after name most long passed second refusal unread = elim unread.cause [
  | inl w ↦ rw w.0 (record { opens = unread.opens; cause = record { same = refl; cause = w.1 } })
  | inr (inl w) ↦
      let file = longer (before.held name) most w.1 in
      let refuses_it : IsRefusal (outcome file.0) (refused long) = subst (λ o. IsRefusal o (refused long)) (sym (passed file.0 file.2)) refl in
      rw w.0 (record { opens = unread.opens; cause = record { bytes = file.0; file = file.1; refusal = refuses_it; second = second } })
  | inr (inr w) ↦ rw w.0 (record { opens = unread.opens; cause = w.1 })
]

-- why nothing comes of a second file is why the command is refused
second_cause : (command : Command) (before middle after : FilesView) (t : TimedView) (outcome : List ℕ → Outcome) → files_of command ≡ 2 → ((bytes : List ℕ) → work_of command (Some bytes) t ≡ outcome bytes) →
    IsPlatformRead before (first_name command) middle t → (refusal : Refusal) → IsSecondFault outcome middle (second_name command) after refusal → IsCauseFor command before after refusal
second_cause command before middle after t outcome two work read usage fault = absurd fault.cause
second_cause command before middle after t outcome two work read (refused reason) fault = record {
  outcome = outcome fault.cause.bytes;
  comes = comes_of command before middle t (Some fault.cause.bytes) (outcome fault.cause.bytes) read (told_before before middle (first_name command) t (second_name command) (Some fault.cause.bytes) read fault.cause.file) (work fault.cause.bytes);
  refusal = fault.cause.refusal;
  opens = opened_for command before after reason (fault.cause.second command ∙ two) (raised_twice before.opens middle.opens after.opens read.opens fault.opens);
}
second_cause command before middle after t outcome two work read (cannot_read named) fault = inr (record {
  is_second = fault.cause.same;
  behind = record { two = two; timed = t; platform = read.platform; short = read.short };
  cause = subst (λ told. MayFail told before.faults after.faults) (read.held named) (subst (λ faults. MayFail (middle.held named) faults after.faults) read.calm (subst (λ name. HasCause middle name after) (sym fault.cause.same) fault.cause.cause));
  opens = raised_twice before.opens middle.opens after.opens read.opens fault.opens;
})
second_cause command before middle after t outcome two work read no_memory fault = record {
  calm = fault.cause ∙ read.calm;
  opened = inr (record { two = two; timed = t; platform = read.platform; short = read.short }, raised_twice before.opens middle.opens after.opens read.opens fault.opens);
}

pub unchecked_is_cause : (before middle after : FilesView) (name second : List ℕ) (series : Series) (t : TimedView) → IsPlatformRead before name middle t → (refusal : Refusal) →
    IsSecondFault (check_of_file t series) middle second after refusal → IsCauseFor (check name second series) before after refusal
unchecked_is_cause before middle after name second series t read =
    second_cause (check name second series) before middle after t (check_of_file t series) refl (λ bytes. refl) read

pub unaudited_is_cause : (before middle after : FilesView) (name second : List ℕ) (periods : ℕ) (t : TimedView) → IsPlatformRead before name middle t → (refusal : Refusal) →
    IsSecondFault (audit_of_file periods t) middle second after refusal → IsCauseFor (audit name second periods) before after refusal
unaudited_is_cause before middle after name second periods t read =
    second_cause (audit name second periods) before middle after t (audit_of_file periods t) refl (λ bytes. refl) read

-- a certificate that is too long
pub long_is_refused : (t : TimedView) (series : Series) (bytes : List ℕ) → most_bytes < length bytes → check_of_file t series bytes ≡ refuses (refused long_certificate)
long_is_refused t series bytes h = rw (lt-ltb most_bytes (length bytes) h) refl

short_is_checked : (t : TimedView) (series : Series) (bytes : List ℕ) → length bytes ≤ most_bytes → check_of_file t series bytes ≡ check_of_bytes t series bytes
short_is_checked t series bytes h = rw (le-ltb most_bytes (length bytes) h) refl

-- a plan that is too long
pub long_plan_refused : (t : TimedView) (periods : ℕ) (bytes : List ℕ) → most_plan_bytes < length bytes → audit_of_file periods t bytes ≡ refuses (refused long_plan)
long_plan_refused t periods bytes h = rw (lt-ltb most_plan_bytes (length bytes) h) refl

short_is_audited : (t : TimedView) (periods : ℕ) (bytes : List ℕ) → length bytes ≤ most_plan_bytes → audit_of_file periods t bytes ≡ audits periods t bytes
short_is_audited t periods bytes h = rw (le-ltb most_plan_bytes (length bytes) h) refl

-- a certificate that is refused, behind both files
second_of_verdict : (command : Command) (t : TimedView) (c : CertificateView) (verdict : Verdict) → opened command (judged t c verdict) ≡ files_of command
second_of_verdict command t c Proves = refl
second_of_verdict command t c (Negative row) = refl
second_of_verdict command t c (Column column) = refl
second_of_verdict command t c Value = refl
second_of_verdict command t c (Overflow column) = refl

second_of_reading : (command : Command) (t : TimedView) (series : Series) (reading : Result CertificateView CertificateFault) → opened command (judged_reading t series reading) ≡ files_of command
second_of_reading command t series (Ok c) = second_of_verdict command t c (verdict_of (programme_of t series) c)
second_of_reading command t series (Err (text.Line number)) = refl
second_of_reading command t series (Err text.NoMemory) = refl

-- the check is refused behind both files, also where messages have nowhere to go
second_of_check : (command : Command) (t : TimedView) (series : Series) (reading : Result CertificateView CertificateFault) (lacks : Bool) →
    opened command (cond lacks (refuses (plan_refusal plans.NoTargets)) (judged_reading t series reading)) ≡ files_of command
second_of_check command t series reading true = refl
second_of_check command t series reading false = second_of_reading command t series reading

-- what the check of a certificate that was read refuses
pub unproved_is_second : (t : TimedView) (series : Series) (before after : FilesView) (name bytes : List ℕ) → IsSecondRead before name most_bytes after bytes → (refusal : Refusal) → MayRefuse (check_of_bytes t series bytes) refusal →
    IsSecondFault (check_of_file t series) before name after refusal
unproved_is_second t series before after name bytes read usage is = absurd is
unproved_is_second t series before after name bytes read (refused reason) is = record {
  opens = read.opens;
  cause = record {
    bytes = bytes;
    file = read.file;
    refusal = subst (λ o. IsRefusal o (refused reason)) (sym (short_is_checked t series bytes read.size ∙ is)) refl;
    second = λ command. sym (ap (opened command) is) ∙ second_of_check command t series (certificate_of series (length (programme_of t series).rows) bytes) (lacks_targets t series);
  };
}
unproved_is_second t series before after name bytes read (cannot_read named) is = absurd is
unproved_is_second t series before after name bytes read no_memory is = record { opens = read.opens; cause = read.calm }

-- a plan that is refused, behind both files
second_of_reason : (periods : ℕ) (t : TimedView) (bytes : List ℕ) (reason : Reason) → IsReason periods t bytes reason → (command : Command) → files_for command reason ≡ files_of command
second_of_reason periods t bytes reason (inl w) command = ap (files_for command) w.1
second_of_reason periods t bytes reason (inr (inl w)) command = ap (files_for command) w.0
second_of_reason periods t bytes reason (inr (inr w)) command = ap (files_for command) w.2

-- what the audit of a plan that was read refuses
pub unsound_is_second : (t : TimedView) (periods : ℕ) (before after : FilesView) (name bytes : List ℕ) → IsTimed t → IsSecondRead before name most_plan_bytes after bytes → (refusal : Refusal) →
    IsAuditFault periods t bytes refusal → IsSecondFault (audit_of_file periods t) before name after refusal
unsound_is_second t periods before after name bytes timed read usage fault = absurd fault
unsound_is_second t periods before after name bytes timed read (refused reason) fault = record {
  opens = read.opens;
  cause = record {
    bytes = bytes;
    file = read.file;
    refusal = subst (λ o. IsRefusal o (refused reason)) (sym (short_is_audited t periods bytes read.size)) (record { timed = timed; small = omega (arith, read.size); reasoned = fault });
    second = second_of_reason periods t bytes reason fault;
  };
}
unsound_is_second t periods before after name bytes timed read (cannot_read named) fault = absurd fault
unsound_is_second t periods before after name bytes timed read no_memory fault = record { opens = read.opens; cause = read.calm }

-- where messages have somewhere to go, the certificate's lines are read
with_target : (t : TimedView) (series : Series) (bytes : List ℕ) → lacks_targets t series ≡ false → check_of_bytes t series bytes ≡ judged_reading t series (certificate_of series (length (programme_of t series).rows) bytes)
with_target t series bytes some = rw some refl

-- what the check of a certificate that was read says is what the command comes to
pub checked_is_made : (before middle after : FilesView) (name second : List ℕ) (series : Series) (t : TimedView) → IsPlatformRead before name middle t → (text : List ℕ) → IsChecked t series middle second after text →
    IsMade (check name second series) before after text
checked_is_made before middle after name second series t read text checked = record {
  outcome = prints text;
  comes = comes_of (check name second series) before middle t (Some checked.bytes) (prints text) read file
      (short_is_checked t series checked.bytes checked.read.size ∙ with_target t series checked.bytes checked.check.some_target ∙ ap (judged_reading t series) checked.check.read ∙ ap (judged t checked.check.certificate) proved.proves ∙ ap prints (sym proved.is_line));
  due = refl;
  claim = record {
    timed = t;
    some_target = checked.check.some_target;
    platform = read.platform;
    bytes = checked.bytes;
    file = file;
    certificate = checked.check.certificate;
    read = checked.check.read;
    proves = proved.proves;
    rate = proved.rate;
    is_line = proved.is_line;
  };
  calm = checked.read.calm ∙ read.calm;
  opens = raised_twice before.opens middle.opens after.opens read.opens checked.read.opens;
}
  where
    proved : IsProved t series checked.check.certificate text
    proved = checked.check.proved

    file : MayBe (before.held second) (Some checked.bytes)
    file = told_before before middle name t second (Some checked.bytes) read checked.read.file

-- what the audit of a plan's file says is what the command comes to
pub audited_is_made : (before middle after : FilesView) (name second : List ℕ) (periods : ℕ) (t : TimedView) → IsPlatformRead before name middle t → (text : List ℕ) → IsAudited t periods middle second after text →
    IsMade (audit name second periods) before after text
audited_is_made before middle after name second periods t read text audited = record {
  outcome = audits periods t audited.bytes;
  comes = comes_of (audit name second periods) before middle t (Some audited.bytes) (audits periods t audited.bytes) read file (short_is_audited t periods audited.bytes audited.read.size);
  due = audited.audit;
  claim = record { timed = t; platform = read.platform; bytes = audited.bytes; file = file; audit = audited.audit };
  calm = audited.read.calm ∙ read.calm;
  opens = raised_twice before.opens middle.opens after.opens read.opens audited.read.opens;
}
  where
    file : MayBe (before.held second) (Some audited.bytes)
    file = told_before before middle name t second (Some audited.bytes) read audited.read.file

-- data that are too long
pub long_data_refused : (pivots size seed : ℕ) (t : TimedView) (bytes : List ℕ) → most_data_bytes < length bytes → rehearse_of_file pivots size seed t bytes ≡ refuses (refused long_data)
long_data_refused pivots size seed t bytes h = rw (lt-ltb most_data_bytes (length bytes) h) refl

short_is_rehearsed : (pivots size seed : ℕ) (t : TimedView) (bytes : List ℕ) → length bytes ≤ most_data_bytes → rehearse_of_file pivots size seed t bytes ≡ rehearse_of_bytes pivots size seed t bytes
short_is_rehearsed pivots size seed t bytes h = rw (le-ltb most_data_bytes (length bytes) h) refl

-- a platform with a plan is rehearsed
plan_is_rehearsed : (pivots size seed : ℕ) (t : TimedView) (bytes : List ℕ) (p : Plan) → IsPlan pivots t Tasking p → rehearse_of_bytes pivots size seed t bytes ≡ rehearses pivots size seed t bytes
plan_is_rehearsed pivots size seed t bytes p made = ap (rehearsed pivots size seed t bytes) (no_fault pivots t Tasking p made)

-- what refuses a rehearsal refuses it behind both files
second_of_rehearsal : (pivots size seed : ℕ) (t : TimedView) (bytes : List ℕ) (fault : Option PlanFault) (reason : Reason) → IsRefusal (rehearsed pivots size seed t bytes fault) (refused reason) →
    (command : Command) → files_for command reason ≡ files_of command
second_of_rehearsal pivots size seed t bytes None reason (inl w) command = ap (files_for command) w.0
second_of_rehearsal pivots size seed t bytes None reason (inr w) command = ap (files_for command) w.0
second_of_rehearsal pivots size seed t bytes (Some plans.NoTargets) reason is command = sym (ap (λ r. opened command (refuses r)) is)
second_of_rehearsal pivots size seed t bytes (Some (plans.Pivot made row column)) reason is command = sym (ap (λ r. opened command (refuses r)) is)
second_of_rehearsal pivots size seed t bytes (Some (plans.Spent allowed)) reason is command = sym (ap (λ r. opened command (refuses r)) is)
second_of_rehearsal pivots size seed t bytes (Some (plans.Period step left right)) reason is command = sym (ap (λ r. opened command (refuses r)) is)
second_of_rehearsal pivots size seed t bytes (Some plans.NoMemory) reason is command = sym (ap (λ r. opened command (refuses r)) is)

-- what the planner refuses, the rehearsal does
pub unplanned_is_fault : (pivots size seed : ℕ) (t : TimedView) (bytes : List ℕ) (refusal : Refusal) → MayRefuse (rehearse_of_bytes pivots size seed t bytes) refusal → IsRehearsalFault pivots size seed t bytes refusal
unplanned_is_fault pivots size seed t bytes usage may = may
unplanned_is_fault pivots size seed t bytes (cannot_read name) may = may
unplanned_is_fault pivots size seed t bytes (refused reason) may = subst (λ o. IsRefusal o (refused reason)) (sym may) refl
unplanned_is_fault pivots size seed t bytes no_memory may = tt

-- why a plan's table isn't carried out is why the rehearsal is refused
pub unrun_is_fault : (pivots size seed : ℕ) (t : TimedView) (bytes : List ℕ) (p : Plan) → IsPlan pivots t Tasking p → (refusal : Refusal) → IsTableFault t p.table (chunk_count size bytes) refusal →
    IsRehearsalFault pivots size seed t bytes refusal
unrun_is_fault pivots size seed t bytes p made usage fault = fault
unrun_is_fault pivots size seed t bytes p made (cannot_read name) fault = fault
unrun_is_fault pivots size seed t bytes p made (refused reason) (inl w) =
    subst (λ o. IsRefusal o (refused reason)) (sym (plan_is_rehearsed pivots size seed t bytes p made)) (inl (w.0, record { plan = p; planned = made; none = w.1; some = w.2 }))
unrun_is_fault pivots size seed t bytes p made (refused reason) (inr w) =
    subst (λ o. IsRefusal o (refused reason)) (sym (plan_is_rehearsed pivots size seed t bytes p made)) (inr (w.0, record { plan = p; planned = made; computes = w.1; long = w.2 }))
unrun_is_fault pivots size seed t bytes p made no_memory fault = tt

-- a run of the plan's table is a rehearsal
pub run_is_rehearsal : (pivots size seed : ℕ) (t : TimedView) (bytes : List ℕ) (p : Plan) → IsPlan pivots t Tasking p → IsBest t Tasking p.table → (text : List ℕ) → IsRunOf t p.table size seed bytes text →
    IsBestRehearsal pivots size seed t bytes text
run_is_rehearsal pivots size seed t bytes p made best text run = record {
  rehearsal = record {
    runnable = record { plan = p; planned = made; computes = run.computes; short = run.short };
    history = run.history;
    rehearsed = run.rehearsed;
    is_text = run.is_text;
  };
  best = best;
}

-- what the rehearsal over data that were read refuses
pub unrehearsed_is_second : (pivots size seed : ℕ) (t : TimedView) (before after : FilesView) (name bytes : List ℕ) → IsSecondRead before name most_data_bytes after bytes → (refusal : Refusal) →
    IsRehearsalFault pivots size seed t bytes refusal → IsSecondFault (rehearse_of_file pivots size seed t) before name after refusal
unrehearsed_is_second pivots size seed t before after name bytes read usage fault = absurd fault
unrehearsed_is_second pivots size seed t before after name bytes read (refused reason) fault = record {
  opens = read.opens;
  cause = record {
    bytes = bytes;
    file = read.file;
    refusal = subst (λ o. IsRefusal o (refused reason)) (sym (short_is_rehearsed pivots size seed t bytes read.size)) fault;
    second = second_of_rehearsal pivots size seed t bytes (fault_of pivots t Tasking) reason fault;
  };
}
unrehearsed_is_second pivots size seed t before after name bytes read (cannot_read named) fault = absurd fault
unrehearsed_is_second pivots size seed t before after name bytes read no_memory fault = record { opens = read.opens; cause = read.calm }

pub unrehearsed_is_cause : (before middle after : FilesView) (name second : List ℕ) (size seed pivots : ℕ) (t : TimedView) → IsPlatformRead before name middle t → (refusal : Refusal) →
    IsSecondFault (rehearse_of_file pivots size seed t) middle second after refusal → IsCauseFor (rehearse name second size seed pivots) before after refusal
unrehearsed_is_cause before middle after name second size seed pivots t read =
    second_cause (rehearse name second size seed pivots) before middle after t (rehearse_of_file pivots size seed t) refl (λ bytes. refl) read

-- what the rehearsal over a file's data says is what the command comes to
pub rehearsed_is_made : (before middle after : FilesView) (name second : List ℕ) (size seed pivots : ℕ) (t : TimedView) → IsPlatformRead before name middle t → (text : List ℕ) →
    IsRehearsedOver t pivots size seed middle second after text → IsMade (rehearse name second size seed pivots) before after text
rehearsed_is_made before middle after name second size seed pivots t read text found = record {
  outcome = rehearses pivots size seed t found.bytes;
  comes = comes_of (rehearse name second size seed pivots) before middle t (Some found.bytes) (rehearses pivots size seed t found.bytes) read file
      (short_is_rehearsed pivots size seed t found.bytes found.read.size ∙ plan_is_rehearsed pivots size seed t found.bytes found.done.rehearsal.runnable.plan found.done.rehearsal.runnable.planned);
  due = found.done.rehearsal;
  claim = record { timed = t; platform = read.platform; bytes = found.bytes; file = file; rehearsal = found.done.rehearsal; best = found.done.best };
  calm = found.read.calm ∙ read.calm;
  opens = raised_twice before.opens middle.opens after.opens read.opens found.read.opens;
}
  where
    file : MayBe (before.held second) (Some found.bytes)
    file = told_before before middle name t second (Some found.bytes) read found.read.file

-- what holds of an error holds of the result that has it
pub of_error : {A E : Type 0} (P : A → Type 0) {Q R : E → Type 0} (r : Result A E) → IsErr r → IsErrAnd r R → ((e : E) → R e → Q e) → MatchResult r P Q
of_error P (Ok x) bad h f = let none : false ≡ true = bad in cc
of_error P (Err e) is h f = f e h

-- what holds of a result's value and of its error
pub both_ways : {A E : Type 0} {P P' : A → Type 0} {Q Q' : E → Type 0} (r : Result A E) → ((x : A) → P x → P' x) → ((e : E) → Q e → Q' e) →
    MatchResult r P Q → MatchResult r P' Q'
both_ways (Ok x) f g h = f x h
both_ways (Err e) f g h = g e h

-- three words and three texts, one behind the other, and a line feed
pub line_in_parts : (a x b y c z : List ℕ) {start first second third : List ℕ} → start ≡ [] → first ≡ start ++ (a ++ x) → second ≡ first ++ (b ++ y) → third ≡ second ++ line (c ++ z) →
    third ≡ line (a ++ (x ++ (b ++ (y ++ (c ++ z)))))
line_in_parts a x b y c z e f g h =
    h ∙ ap (λ xs. xs ++ line (c ++ z)) (g ∙ ap (λ xs. xs ++ (b ++ y)) (f ∙ ap (λ xs. xs ++ (a ++ x)) e))
    ∙ append_assoc (a ++ x) (b ++ y) (line (c ++ z))
    ∙ append_assoc a x ((b ++ y) ++ line (c ++ z))
    ∙ ap (λ xs. a ++ (x ++ xs)) (append_assoc b y (line (c ++ z)))
    ∙ sym ended
  where
    ended : line (a ++ (x ++ (b ++ (y ++ (c ++ z))))) ≡ a ++ (x ++ (b ++ (y ++ line (c ++ z))))
    ended =
        append_assoc a (x ++ (b ++ (y ++ (c ++ z)))) (10 ∷ [])
        ∙ ap (λ xs. a ++ xs) (append_assoc x (b ++ (y ++ (c ++ z))) (10 ∷ []))
        ∙ ap (λ xs. a ++ (x ++ xs)) (append_assoc b (y ++ (c ++ z)) (10 ∷ []))
        ∙ ap (λ xs. a ++ (x ++ (b ++ xs))) (append_assoc y (c ++ z) (10 ∷ []))
