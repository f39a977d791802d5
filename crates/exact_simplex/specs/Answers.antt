-- What a run answers, and the tableaux that it passes.
use Rattle.std.specs.Prelude.{◌≡◌, ℕ, zero, suc, ◌≤◌, Option, Some, None, option_and_then, Result, Ok, Err}
use Rattle.linear_program.specs.Tableaux.{TableauView}
use Rattle.linear_program.specs.declared.certificate.Optimum.{Optimum}
use Rattle.exact_simplex.specs.Bland.{Step, bland_step, Run}
use Rattle.exact_simplex.specs.Optima.{optimum_of}
use Rattle.exact_simplex.specs.declared.fault.SolveFault.{SolveFault}

-- the answer of a run with so many pivots allowed; none where no row leaves, which a bounded programme excludes
abbrev pub answer_of : ℕ → Run → Option (Result Optimum SolveFault)
answer_of limit (Run.ended t) = Some (Ok (optimum_of t))
answer_of limit (Run.spent t) = Some (Err (SolveFault.Spent limit))
answer_of limit (Run.overflow pivots row column t) = Some (Err (SolveFault.Overflow pivots row column))
answer_of limit (Run.unlimited t) = None

-- the tableau that a run reached
abbrev pub tableau_of : Run → TableauView
tableau_of (Run.ended t) = t
tableau_of (Run.spent t) = t
tableau_of (Run.overflow pivots row column t) = t
tableau_of (Run.unlimited t) = t

-- the tableau that a step leads to
abbrev pub next_of : Step → Option TableauView
next_of Step.ended = None
next_of Step.unlimited = None
next_of (Step.overflow i j) = None
next_of (Step.next t) = Some t

-- the tableau after so many steps by Bland's rule, where there are so many
abbrev pub tableau_after : ℕ → TableauView → Option TableauView
tableau_after zero t = Some t
tableau_after (suc n) t = option_and_then (λ u. next_of (bland_step u)) (tableau_after n t)

-- a tableau that some steps by Bland's rule, at most so many as allowed, lead to
pub record IsReached (limit : ℕ) (start t : TableauView) : Type 0 where
  pub pivots : ℕ
  pub within : pivots ≤ limit
  pub after : tableau_after pivots start ≡ Some t
