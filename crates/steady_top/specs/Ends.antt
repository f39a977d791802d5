-- What each status says of a call of the program (this project).
use Rattle.std.specs.Prelude.{◌≡◌, ◌⊎◌, ℕ, List, None, Option}
use Rattle.outside_io.specs.Faults.{Rose}
use Rattle.command_words.specs.Words.{command_of}
use Rattle.steady_top.specs.declared.status.Status.{Status}
use Rattle.steady_top.specs.declared.status.Status.TheVariants as status
use Rattle.steady_top.specs.Refusals.{Refusal, status_of}
use Rattle.steady_top.specs.Refusals as refusals
use Rattle.steady_top.specs.Outcomes.{outcome_of, IsText, IsRefusal}
use Rattle.steady_top.specs.Answers.{AreToldAs, Call, IsPrinted, IsRefused, IsRefusedWith, IsCutShort, IsCalm}

-- how a call ends
pub record IsEnd (call : Call) (result : Status) : Type 0 where
  -- Done only where the definitions print a text for the words and the files, just that text was written, and it is what its command claims:
  -- the text of a best table, the certificate of the best rate, a rate that a certificate proves, or what a plan completes by a schedule that
  -- keeps every rule
  pub done : result ≡ status.Done → IsPrinted call
  -- each refusal comes with its cause, and its one error line was written
  pub usage : result ≡ status.Usage → IsRefused call refusals.usage
  pub platform : result ≡ status.Platform → IsRefusedWith status.Platform call
  pub overflow : result ≡ status.Overflow → IsRefusedWith status.Overflow call
  pub spent : result ≡ status.Spent → IsRefusedWith status.Spent call
  pub too_long : result ≡ status.TooLong → IsRefusedWith status.TooLong call
  pub refused : result ≡ status.Refused → IsRefusedWith status.Refused call
  pub read_fault : result ≡ status.ReadFault → (name : List ℕ) × IsRefused call (refusals.cannot_read name)
  pub memory : result ≡ status.NoMemory → IsRefused call refusals.no_memory
  pub write_fault : result ≡ status.WriteFault → IsCutShort call
  -- where the files tell what the command's names hold and nothing failed, the answer is the one that the definitions give, or out of memory
  pub complete : (holds : List ℕ → Option (List ℕ)) → AreToldAs call.before call.words holds → IsText (outcome_of call.words holds) → IsCalm call →
      (result ≡ status.Done) ⊎ (result ≡ status.NoMemory)
  pub exact : (holds : List ℕ → Option (List ℕ)) (refusal : Refusal) → AreToldAs call.before call.words holds → IsRefusal (outcome_of call.words holds) refusal →
      IsCalm call → (result ≡ status_of refusal) ⊎ (result ≡ status.NoMemory)
  -- words that are no command are refused, whatever the files are, and nothing is opened
  pub no_command : command_of call.words ≡ None → (Rose call.out_before.faults call.out_after.faults → ⊥) →
      (result ≡ status.Usage) ⊎ (result ≡ status.NoMemory)
  pub untouched : command_of call.words ≡ None → call.after ≡ call.before
