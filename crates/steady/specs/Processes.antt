-- How the process ends (this project).
use Rattle.std.specs.Prelude.{◌≡◌, ℕ}
use Rattle.steady_top.specs.declared.status.Status.{Status}
use Rattle.steady_top.specs.Exits.{exit_code}
use Rattle.steady_top.specs.Refusals.{Refusal, no_memory, status_of, error_line}
use Rattle.steady_top.specs.Answers.{Call, IsOneOf, Ends}

-- the process ends with the number of a status of which this holds
abbrev pub ExitsWith : (Status → Type 0) → ℕ → Type 0
ExitsWith P code = (status : Status) × (code ≡ exit_code status) × P status

-- there are no words: nothing is opened, and the error line of this refusal is written, or `out of memory`
pub record IsWordless (refusal : Refusal) (call : Call) (status : Status) : Type 0 where
  pub untouched : call.after ≡ call.before
  pub line : IsOneOf refusal no_memory (λ due. Ends (status_of due) (error_line due) call.out_before call.out_after status)
