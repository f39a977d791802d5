-- What a response of the program says of each status.
use Rattle.std.proofs.Common.{◌≡◌, ◌∙◌, ℕ, List, Option, Some, None, ◌⊎◌, inl, inr, refl, sym, ap, subst, arith}
use Rattle.outside_io.specs.Faults.{Rose}
use Rattle.outside_io.specs.Files.{Told, untold, absent, contents, FilesView, MayFail}
use Rattle.planner.specs.declared.fault.PlanFault.TheVariants as plans
use Rattle.steady_top.specs.declared.status.Status.{Status}
use Rattle.steady_top.specs.declared.status.Status.TheVariants as status
use Rattle.steady_top.specs.Refusals.{Reason, no_platform, no_ticks, no_plan, long_certificate, certificate_line, negative_price, uncovered_column, passed_value, check_overflow, long_plan, plan_line, long_operations, nothing_computes, long_data, long_events, breach, Refusal, usage, refused, cannot_read, no_memory, reason_status, status_of, error_line}
use Rattle.command_words.specs.Words.{Command, plan, prices, check, audit, rehearse, command_of}
use Rattle.platform_file.specs.Ticks.{TimedView}
use Rattle.steady_top.specs.Outcomes.{first_name, second_name, files_of, Outcome, refuses, IsText, IsRefusal, work_of, outcome_for, outcome_of_command, outcome_of}
use Rattle.steady_top.proofs.Audited.{text_or_refusal, print_or_refusal, one_status}
use Rattle.steady_top.specs.Answers.{MayBe, IsToldAs, AreNamesToldAs, AreToldAs, ComesTo, IsSecondUnread, IsCauseFor, IsCause, IsLineCause, Call, IsPrinted, IsRefused, IsRefusedWith, IsCutShort, IsCalm, Ends, IsResponse, IsOneOf}
use Rattle.steady_top.specs.Ends.{IsEnd}

-- the statuses of refusals of what was read
abbrev pub IsOfReason : Status → Type 0
IsOfReason status.Platform = Unit {0}
IsOfReason status.Overflow = Unit {0}
IsOfReason status.Spent = Unit {0}
IsOfReason status.TooLong = Unit {0}
IsOfReason status.Refused = Unit {0}
IsOfReason other = ⊥

of_reason : (reason : Reason) → IsOfReason (reason_status reason)
of_reason (no_platform fault) = tt
of_reason (no_ticks fault) = tt
of_reason (no_plan plans.NoTargets) = tt
of_reason (no_plan (plans.Pivot pivots row column)) = tt
of_reason (no_plan (plans.Spent limit)) = tt
of_reason (no_plan (plans.Period step left right)) = tt
of_reason (no_plan plans.NoMemory) = tt
of_reason long_certificate = tt
of_reason (certificate_line number) = tt
of_reason (negative_price row) = tt
of_reason (uncovered_column column) = tt
of_reason passed_value = tt
of_reason (check_overflow column) = tt
of_reason long_plan = tt
of_reason (plan_line number) = tt
of_reason long_operations = tt
of_reason nothing_computes = tt
of_reason long_data = tt
of_reason long_events = tt
of_reason (breach index rule) = tt

-- so a refusal of what was read has no other status
not_of_reason : (reason : Reason) (due : Status) → (IsOfReason due → ⊥) → reason_status reason ≡ due → ⊥
not_of_reason reason due other e = other (subst IsOfReason e (of_reason reason))

-- which refusal has which status
never_done : (refusal : Refusal) → status_of refusal ≡ status.Done → ⊥
never_done usage e = cc
never_done (cannot_read name) e = cc
never_done (refused reason) e = not_of_reason reason status.Done (λ bad. bad) e
never_done no_memory e = cc

never_write_fault : (refusal : Refusal) → status_of refusal ≡ status.WriteFault → ⊥
never_write_fault usage e = cc
never_write_fault (cannot_read name) e = cc
never_write_fault (refused reason) e = not_of_reason reason status.WriteFault (λ bad. bad) e
never_write_fault no_memory e = cc

is_usage : (refusal : Refusal) → status_of refusal ≡ status.Usage → refusal ≡ usage
is_usage usage e = refl
is_usage (cannot_read name) e = cc
is_usage (refused reason) e = absurd (not_of_reason reason status.Usage (λ bad. bad) e)
is_usage no_memory e = cc

is_no_memory : (refusal : Refusal) → status_of refusal ≡ status.NoMemory → refusal ≡ no_memory
is_no_memory usage e = cc
is_no_memory (cannot_read name) e = cc
is_no_memory (refused reason) e = absurd (not_of_reason reason status.NoMemory (λ bad. bad) e)
is_no_memory no_memory e = refl

is_cannot_read : (refusal : Refusal) → status_of refusal ≡ status.ReadFault → (name : List ℕ) × (refusal ≡ cannot_read name)
is_cannot_read usage e = cc
is_cannot_read (cannot_read name) e = (name, refl)
is_cannot_read (refused reason) e = absurd (not_of_reason reason status.ReadFault (λ bad. bad) e)
is_cannot_read no_memory e = cc

-- a refusal with the status of a reason is of what was read
is_of_reason : (refusal : Refusal) (due : Status) → IsOfReason due → status_of refusal ≡ due → (reason : Reason) × (refusal ≡ refused reason)
is_of_reason usage due reasonable e = absurd (subst IsOfReason (sym e) reasonable)
is_of_reason (cannot_read name) due reasonable e = absurd (subst IsOfReason (sym e) reasonable)
is_of_reason (refused reason) due reasonable e = (reason, refl)
is_of_reason no_memory due reasonable e = absurd (subst IsOfReason (sym e) reasonable)

-- files that tell all are the ones that may have been read
same_file : (told : Told) (holds read : Option (List ℕ)) → IsToldAs told holds → MayBe told read → holds ≡ read
same_file untold holds read h k = absurd h
same_file absent holds read h k = h ∙ sym k
same_file (contents bytes) holds read h k = h ∙ sym k

-- what a command comes to is what the words come to, where the files tell all
words_come_to : (words : List (List ℕ)) (before : FilesView) (holds : List ℕ → Option (List ℕ)) (command : Command) (outcome : Outcome) → AreToldAs before words holds → command_of words ≡ Some command →
    ComesTo command before outcome → outcome_of words holds ≡ outcome
words_come_to words before holds command outcome told given comes =
    let names : AreNamesToldAs before command holds = told command given in
    let first = same_file (before.held (first_name command)) (holds (first_name command)) comes.first names.0 comes.first_told in
    let second = same_file (before.held (second_name command)) (holds (second_name command)) comes.second names.1 comes.second_told in
    ap (outcome_of_command holds) given ∙ ap (λ file. outcome_for command file (holds (second_name command))) first ∙ ap (outcome_for command comes.first) second ∙ comes.is

-- the refusal is what the words come to, for all files that tell what they hold
abbrev IsOutcome : List (List ℕ) → FilesView → Refusal → Type 0
IsOutcome words before refusal = (holds : List ℕ → Option (List ℕ)) → AreToldAs before words holds → IsRefusal (outcome_of words holds) refusal

-- what refuses is the refusal
refuses_so : (outcome : Outcome) (refusal : Refusal) → outcome ≡ refuses refusal → IsRefusal outcome refusal
refuses_so outcome refusal is = subst (λ o. IsRefusal o refusal) (sym is) refl

no_fault : (told : Told) (before after : ℕ) → (Rose before after → ⊥) → MayFail told before after → told ≡ absent
no_fault untold before after calm h = absurd (calm h)
no_fault absent before after calm h = refl
no_fault (contents bytes) before after calm h = absurd (calm h)

-- the first file is absent
first_absent : (words : List (List ℕ)) (before : FilesView) (command : Command) (name : List ℕ) → command_of words ≡ Some command → name ≡ first_name command → before.held name ≡ absent → IsOutcome words before (cannot_read name)
first_absent words before command name given is none holds told =
    let names : AreNamesToldAs before command holds = told command given in
    let nothing : holds (first_name command) ≡ None = subst (λ file. IsToldAs file (holds (first_name command))) (subst (λ name. before.held name ≡ absent) is none) names.0 in
    refuses_so (outcome_of words holds) (cannot_read name)
    (ap (outcome_of_command holds) given ∙ ap (λ file. outcome_for command file (holds (second_name command))) nothing ∙ ap (λ name. refuses (cannot_read name)) (sym is))

-- a command that opens two files refuses where the second is absent
opens_second : (command : Command) (t : TimedView) → files_of command ≡ 2 → work_of command None t ≡ refuses (cannot_read (second_name command))
opens_second (plan name series pivots) t two = absurd (omega (arith, two))
opens_second (prices name series pivots) t two = absurd (omega (arith, two))
opens_second (check name certificate series) t two = refl
opens_second (audit name other periods) t two = refl
opens_second (rehearse name other chunk seed pivots) t two = refl

-- behind a platform that was read, the second file is absent
second_absent : (words : List (List ℕ)) (before after : FilesView) (command : Command) (name : List ℕ) → command_of words ≡ Some command → IsSecondUnread command before after name → before.held name ≡ absent → IsOutcome words before (cannot_read name)
second_absent words before after command name given fault none holds told =
    let names : AreNamesToldAs before command holds = told command given in
    let nothing : holds (second_name command) ≡ None = subst (λ file. IsToldAs file (holds (second_name command))) (subst (λ name. before.held name ≡ absent) fault.is_second none) names.1 in
    let platform = fault.behind.platform in
    let first : holds (first_name command) ≡ Some platform.bytes = same_file (before.held (first_name command)) (holds (first_name command)) (Some platform.bytes) names.0 platform.file in
    refuses_so (outcome_of words holds) (cannot_read name)
    (ap (outcome_of_command holds) given
    ∙ ap (λ file. outcome_for command file (holds (second_name command))) first
    ∙ ap (λ file. outcome_for command (Some platform.bytes) file) nothing
    ∙ fault.behind.short (work_of command None)
    ∙ opens_second command fault.behind.timed fault.behind.two
    ∙ ap (λ name. refuses (cannot_read name)) (sym fault.is_second))

-- a cause leads to its refusal, where no fault occurred
cause_for_is_outcome : (words : List (List ℕ)) (before after : FilesView) (refusal : Refusal) → (Rose before.faults after.faults → ⊥) → (command : Command) → command_of words ≡ Some command →
    IsCauseFor command before after refusal → (refusal ≡ no_memory) ⊎ IsOutcome words before refusal
cause_for_is_outcome words before after usage calm command given cause = absurd cause
cause_for_is_outcome words before after (refused reason) calm command given cause =
    inr (λ holds told. subst (λ o. IsRefusal o (refused reason)) (sym (words_come_to words before holds command cause.outcome told given cause.comes)) cause.refusal)
cause_for_is_outcome words before after (cannot_read name) calm command given (inl fault) =
    inr (first_absent words before command name given fault.is_first (no_fault (before.held name) _ _ calm fault.cause))
cause_for_is_outcome words before after (cannot_read name) calm command given (inr fault) =
    inr (second_absent words before after command name given fault (no_fault (before.held name) _ _ calm fault.cause))
cause_for_is_outcome words before after no_memory calm command given cause = inl refl

cause_is_outcome : (words : List (List ℕ)) (before after : FilesView) (refusal : Refusal) → (Rose before.faults after.faults → ⊥) →
    IsLineCause words before after refusal → (refusal ≡ no_memory) ⊎ IsOutcome words before refusal
cause_is_outcome words before after usage calm cause = inr (λ holds told. refuses_so (outcome_of words holds) usage (ap (outcome_of_command holds) cause.0))
cause_is_outcome words before after (refused reason) calm cause = cause_for_is_outcome words before after (refused reason) calm cause.command cause.given cause.holds
cause_is_outcome words before after (cannot_read name) calm cause = cause_for_is_outcome words before after (cannot_read name) calm cause.command cause.given cause.holds
cause_is_outcome words before after no_memory calm cause = inl refl

-- the cause of a refusal is that of its line
cause_of_line : (words : List (List ℕ)) (before after : FilesView) (refusal : Refusal) → IsCause words before after refusal → IsLineCause words before after refusal
cause_of_line words before after usage cause = cause
cause_of_line words before after (refused reason) cause = cause
cause_of_line words before after (cannot_read name) cause = cause
cause_of_line words before after no_memory cause = (no_memory, cause)

-- a refusal whose line was to be written, or that of memory that ran out
pub refused_response : (call : Call) (refusal : Refusal) (result : Status) → IsCause call.words call.before call.after refusal →
    IsOneOf refusal no_memory (λ due. Ends (status_of due) (error_line due) call.out_before call.out_after result) → IsResponse call result
refused_response call refusal result cause (inl ends) =
    inr (record { refusal = refusal; cause = cause_of_line call.words call.before call.after refusal cause; ends = ends })
refused_response call refusal result cause (inr ends) = inr (record { refusal = no_memory; cause = (refusal, cause); ends = ends })

-- words that are no command leave the files as they are
left_alone : (words : List (List ℕ)) (before after : FilesView) (refusal : Refusal) → command_of words ≡ None → IsCause words before after refusal → after ≡ before
left_alone words before after usage none cause = cause.1
left_alone words before after (refused reason) none cause = let bad = sym none ∙ cause.given in cc
left_alone words before after (cannot_read name) none cause = let bad = sym none ∙ cause.given in cc
left_alone words before after no_memory none (inl same) = same
left_alone words before after no_memory none (inr cause) = let bad = sym none ∙ cause.given in cc

line_left_alone : (words : List (List ℕ)) (before after : FilesView) (refusal : Refusal) → command_of words ≡ None → IsLineCause words before after refusal → after ≡ before
line_left_alone words before after usage none cause = left_alone words before after usage none cause
line_left_alone words before after (refused reason) none cause = left_alone words before after (refused reason) none cause
line_left_alone words before after (cannot_read name) none cause = left_alone words before after (cannot_read name) none cause
line_left_alone words before after no_memory none cause = left_alone words before after cause.0 none cause.1

module _ (call : Call) (result : Status) (response : IsResponse call result) where
  done : result ≡ status.Done → IsPrinted call
  done is = elim response [
    | inl attempt ↦ elim attempt.ends [
      | inl whole ↦ record { text = attempt.text; answer = attempt.answer; written = whole.1 }
      | inr cut ↦ let bad = sym is ∙ cut.0 in cc
    ]
    | inr attempt ↦ elim attempt.ends [
      | inl whole ↦ absurd (never_done attempt.refusal (sym whole.0 ∙ is))
      | inr cut ↦ let bad = sym is ∙ cut.0 in cc
    ]
  ]

  -- a status that is neither Done nor WriteFault comes of a refusal whose line was written
  refusing : (result ≡ status.Done → ⊥) → (result ≡ status.WriteFault → ⊥) → (refusal : Refusal) × (result ≡ status_of refusal) × IsRefused call refusal
  refusing not_done not_cut = elim response [
    | inl attempt ↦ elim attempt.ends [ inl whole ↦ absurd (not_done whole.0) | inr cut ↦ absurd (not_cut cut.0) ]
    | inr attempt ↦ elim attempt.ends [
      | inl whole ↦ (attempt.refusal, whole.0, record { cause = attempt.cause; written = whole.1 })
      | inr cut ↦ absurd (not_cut cut.0)
    ]
  ]

  refused_as : (due : Status) → (due ≡ status.Done → ⊥) → (due ≡ status.WriteFault → ⊥) → result ≡ due →
      (refusal : Refusal) × (status_of refusal ≡ due) × IsRefused call refusal
  refused_as due not_done not_cut is =
      let found = refusing (λ e. not_done (sym is ∙ e)) (λ e. not_cut (sym is ∙ e)) in
      (found.0, sym found.1 ∙ is, found.2)

  refused_usage : result ≡ status.Usage → IsRefused call usage
  refused_usage is =
      let found = refused_as status.Usage (λ e. cc) (λ e. cc) is in
      rw (is_usage found.0 found.1) at found.2

  refused_reason : (due : Status) → IsOfReason due → result ≡ due → IsRefusedWith due call
  refused_reason due reasonable is =
      let found = refused_as due (λ e. subst IsOfReason e reasonable) (λ e. subst IsOfReason e reasonable) is in
      let of = is_of_reason found.0 due reasonable found.1 in
      record { reason = of.0; is = sym (ap status_of of.1) ∙ found.1; refusal = rw of.1 at found.2 }

  refused_read : result ≡ status.ReadFault → (name : List ℕ) × IsRefused call (cannot_read name)
  refused_read is =
      let found = refused_as status.ReadFault (λ e. cc) (λ e. cc) is in
      let named = is_cannot_read found.0 found.1 in
      (named.0, rw named.1 at found.2)

  refused_memory : result ≡ status.NoMemory → IsRefused call no_memory
  refused_memory is =
      let found = refused_as status.NoMemory (λ e. cc) (λ e. cc) is in
      rw (is_no_memory found.0 found.1) at found.2

  cut_short : result ≡ status.WriteFault → IsCutShort call
  cut_short is = elim response [
    | inl attempt ↦ elim attempt.ends [
      | inl whole ↦ let bad = sym is ∙ whole.0 in cc
      | inr cut ↦ record { text = attempt.text; due = inl attempt.answer; cut = cut.1 }
    ]
    | inr attempt ↦ elim attempt.ends [
      | inl whole ↦ absurd (never_write_fault attempt.refusal (sym whole.0 ∙ is))
      | inr cut ↦
          record {
            text = error_line attempt.refusal;
            due = inr (record { refusal = attempt.refusal; cause = attempt.cause; is_line = refl });
            cut = cut.1;
          }
    ]
  ]

  complete : (holds : List ℕ → Option (List ℕ)) → AreToldAs call.before call.words holds → IsText (outcome_of call.words holds) →
      IsCalm call → (result ≡ status.Done) ⊎ (result ≡ status.NoMemory)
  complete holds told outcome calm = elim response [
    | inl attempt ↦ elim attempt.ends [ inl whole ↦ inl whole.0 | inr cut ↦ absurd (calm.out cut.1.cause) ]
    | inr attempt ↦ elim attempt.ends [
      | inl whole ↦ elim (cause_is_outcome call.words call.before call.after attempt.refusal calm.files attempt.cause) [
        | inl memory ↦ inr (whole.0 ∙ ap status_of memory)
        | inr due ↦ absurd (text_or_refusal (outcome_of call.words holds) attempt.refusal outcome (due holds told))
      ]
      | inr cut ↦ absurd (calm.out cut.1.cause)
    ]
  ]

  exact : (holds : List ℕ → Option (List ℕ)) (refusal : Refusal) → AreToldAs call.before call.words holds → IsRefusal (outcome_of call.words holds) refusal →
      IsCalm call → (result ≡ status_of refusal) ⊎ (result ≡ status.NoMemory)
  exact holds refusal told outcome calm = elim response [
    | inl attempt ↦
        let made = attempt.answer.holds in
        let refused_too : IsRefusal made.outcome refusal = subst (λ o. IsRefusal o refusal) (words_come_to call.words call.before holds attempt.answer.command made.outcome told attempt.answer.given made.comes) outcome in
        absurd (print_or_refusal made.outcome attempt.text refusal made.due refused_too)
    | inr attempt ↦ elim attempt.ends [
      | inl whole ↦ elim (cause_is_outcome call.words call.before call.after attempt.refusal calm.files attempt.cause) [
        | inl memory ↦ inr (whole.0 ∙ ap status_of memory)
        | inr due ↦ inl (whole.0 ∙ one_status (outcome_of call.words holds) attempt.refusal refusal (due holds told) outcome)
      ]
      | inr cut ↦ absurd (calm.out cut.1.cause)
    ]
  ]

  no_command : command_of call.words ≡ None → (Rose call.out_before.faults call.out_after.faults → ⊥) → (result ≡ status.Usage) ⊎ (result ≡ status.NoMemory)
  no_command none calm_sink = elim response [
    | inl attempt ↦ let bad = sym none ∙ attempt.answer.given in cc
    | inr attempt ↦ elim attempt.ends [
      | inl whole ↦ of_cause attempt.refusal attempt.cause whole.0
      | inr cut ↦ absurd (calm_sink cut.1.cause)
    ]
  ]
    where
      of_cause : (refusal : Refusal) → IsLineCause call.words call.before call.after refusal → result ≡ status_of refusal → (result ≡ status.Usage) ⊎ (result ≡ status.NoMemory)
      of_cause usage cause is = inl is
      of_cause (refused reason) cause is = let bad = sym none ∙ cause.given in cc
      of_cause (cannot_read name) cause is = let bad = sym none ∙ cause.given in cc
      of_cause no_memory cause is = inr is

  untouched : command_of call.words ≡ None → call.after ≡ call.before
  untouched none = elim response [
    | inl attempt ↦ let bad = sym none ∙ attempt.answer.given in cc
    | inr attempt ↦ line_left_alone call.words call.before call.after attempt.refusal none attempt.cause
  ]

  -- so the call ends as each status says
  pub ends : IsEnd call result
  ends = record {
    done = done;
    usage = refused_usage;
    platform = refused_reason status.Platform tt;
    overflow = refused_reason status.Overflow tt;
    spent = refused_reason status.Spent tt;
    too_long = refused_reason status.TooLong tt;
    refused = refused_reason status.Refused tt;
    read_fault = refused_read;
    memory = refused_memory;
    write_fault = cut_short;
    complete = complete;
    exact = exact;
    no_command = no_command;
    untouched = untouched;
  }
