-- What the program's run comes to, with words and without.
use Rattle.std.proofs.Common.{◌≡◌, ◌≢◌, ◌∙◌, ℕ, List, Result, Ok, Err, IfOk, IfErr, MatchResult, ◌⊎◌, inl, inr, refl, sym, subst}
use Rattle.steady_top.specs.declared.status.Status.{Status}
use Rattle.steady_top.specs.declared.fault.TopFault.{TopFault}
use Rattle.steady_top.specs.declared.fault.TopFault.TheVariants as top
use Rattle.steady_top.specs.Exits.{exit_code}
use Rattle.steady_top.specs.Refusals.{Refusal, no_memory, status_of, error_line}
use Rattle.steady_top.specs.Faults.{refusal_of}
use Rattle.steady_top.specs.Answers.{Call, IsOneOf, Ends}
use Rattle.steady_top.specs.Ends.{IsEnd}
use Rattle.steady_top.proofs.Responses.{refused_response, ends}
use Rattle.steady.specs.Processes.{ExitsWith, IsWordless}

-- what the fault of words is, by the host's arguments: with arguments memory ran out, and without it is one of two
module _ {A E W : Type 0} (IsWords : A → W → Type 0) (IsMemory : E → Type 0) where
  abbrev pub AreWords : Result A E → Result W TopFault → Type 0
  AreWords arguments result = MatchResult arguments
      (λ all. MatchResult result (IsWords all) (λ fault. fault ≡ top.NoMemory))
      (λ error. (IsMemory error → result ≡ Err top.NoMemory) × ((IsMemory error → ⊥) → result ≡ Err top.Usage))

  -- with words they are the host's
  pub words_had : (arguments : Result A E) (words : W) → AreWords arguments (Ok words) → IfOk arguments (λ all. IsWords all words)
  words_had (Ok all) words h = h
  words_had (Err error) words h = tt

  -- without words the fault is what it has to be
  pub memory_lost : (arguments : Result A E) (fault : TopFault) → AreWords arguments (Err fault) → IfOk arguments (λ all. fault ≡ top.NoMemory)
  memory_lost (Ok all) fault h = h
  memory_lost (Err error) fault h = tt

  pub is_usage : (arguments : Result A E) (fault : TopFault) → AreWords arguments (Err fault) → IfErr arguments (λ error. (IsMemory error → ⊥) → fault ≡ top.Usage)
  is_usage (Ok all) fault h = tt
  is_usage (Err error) fault h = λ other. let same = h.1 other in cc

  pub is_memory : (arguments : Result A E) (fault : TopFault) → AreWords arguments (Err fault) → IfErr arguments (λ error. IsMemory error → fault ≡ top.NoMemory)
  is_memory (Ok all) fault h = tt
  is_memory (Err error) fault h = λ memory. let same = h.0 memory in cc

-- the line of a fault, where nothing was opened
abbrev IsFaultLine : Call → Status → TopFault → Type 0
IsFaultLine call status fault = IsOneOf (refusal_of fault) no_memory (λ due. Ends (status_of due) (error_line due) call.out_before call.out_after status)

-- where memory runs out for the words, the call ends as it has to
pub memory_ends : (call : Call) (status : Status) (fault : TopFault) (code : ℕ) → call.after ≡ call.before → IsFaultLine call status fault → code ≡ exit_code status → fault ≡ top.NoMemory → ExitsWith (IsEnd call) code
memory_ends call status fault code same line number is =
    (status, number, ends call status (refused_response call no_memory status (inl same) (subst (IsFaultLine call status) is line)))

pub wordless_ends : (refusal : Refusal) (call : Call) (status : Status) (fault due : TopFault) (code : ℕ) → call.after ≡ call.before → IsFaultLine call status fault → code ≡ exit_code status → refusal_of due ≡ refusal → fault ≡ due →
    ExitsWith (IsWordless refusal call) code
wordless_ends refusal call status fault due code same line number of is =
    (status, number, record { untouched = same; line = subst (λ r. IsOneOf r no_memory (λ due. Ends (status_of due) (error_line due) call.out_before call.out_after status)) of (subst (IsFaultLine call status) is line) })

-- what follows of a result's value or of its error
pub ok_then : {A E : Type 0} {P Q : A → Type 0} (r : Result A E) → ((x : A) → P x → Q x) → IfOk r P → IfOk r Q
ok_then (Ok x) f h = f x h
ok_then (Err e) f h = tt

pub err_then : {A E : Type 0} {P Q : E → Type 0} (r : Result A E) → ((e : E) → P e → Q e) → IfErr r P → IfErr r Q
err_then (Ok x) f h = tt
err_then (Err e) f h = f e h
