-- Each Take of a program is directly followed by the Open or the Done of its task.
use Rattle.std.proofs.Common.{◌≡◌, ℕ, zero, suc, ◌+◌, ◌-◌, ◌≤◌, List, [], ◌∷◌, ◌++◌, length, sym, refl, ap, ◌∙◌, inl, inr, arith, Option, Some, None, slice_get}
use Rattle.std.proofs.lemmas.Bool.{cases_lt}
use Rattle.std.proofs.lemmas.Option.{slice_get_within}
use Rattle.platform_file.specs.Ticks.{TimedView}
use Rattle.period_table.specs.declared.table.Table.{Table}
use Rattle.step_core.specs.declared.wiring.Event.{Event}
use Rattle.step_core.specs.declared.wiring.Event.TheVariants.{Take, Open, Done}
use Rattle.step_core.specs.Wirings.{program_of}
use Rattle.actor_programs.specs.Runs.{taken, used, task_events}
use Rattle.actor_programs.specs.Programs.{runs_of, run_periods, wiring_of}
use Rattle.actor_programs.specs.Carried.{IsUse, UsesAtOnce}
use Rattle.actor_programs.proofs.Joined.{slice_get-first}
use Rattle.actor_programs.proofs.Formed.{of_program, every, each_program}

slice_get-second : {X : Type 0} (xs ys : List X) (i : ℕ) → length xs ≤ i → slice_get (xs ++ ys) i ≡ slice_get ys (i - length xs)
slice_get-second [] ys i le = let e : i ≡ i - 0 = omega arith in ap (slice_get ys) e
slice_get-second (x ∷ xs) ys zero le = absurd (omega arith)
slice_get-second (x ∷ xs) ys (suc i) le =
    let e : i - length xs ≡ suc i - suc (length xs) = omega arith in
    slice_get-second xs ys i (omega arith) ∙ ap (slice_get ys) e

used_joins : (xs ys : List Event) → UsesAtOnce xs → UsesAtOnce ys → UsesAtOnce (xs ++ ys)
used_joins xs ys p q i a l t is = elim (cases_lt i (length xs)) [
  | inl inside ↦
      let u = p i a l t (sym (slice_get-first xs ys i inside) ∙ is) in
      (u.0, slice_get-first xs ys (i + 1) (slice_get_within xs (i + 1) u.0 u.1) ∙ u.1, u.2)
  | inr past ↦
      let u = q (i - length xs) a l t (sym (slice_get-second xs ys i past) ∙ is) in
      let e : (i + 1) - length xs ≡ (i - length xs) + 1 = omega (arith, past) in
      (u.0, slice_get-second xs ys (i + 1) (omega (arith, past)) ∙ ap (slice_get ys) e ∙ u.1, u.2)
]

used_nothing : UsesAtOnce []
used_nothing i a l t is = absurd (cc)

used_task : (number : ℕ) (take lane : Option ℕ) (task i a l t : ℕ) → slice_get (taken number take task ++ used number lane task) i ≡ Some (Take a l t)
    → (e : Event) × (slice_get (taken number take task ++ used number lane task) (i + 1) ≡ Some e) × IsUse t e
used_task number None None task zero a l t is = absurd (cc)
used_task number None None task (suc i) a l t is = absurd (cc)
used_task number None (Some k) task zero a l t is = absurd (cc)
used_task number None (Some k) task (suc zero) a l t is = absurd (cc)
used_task number None (Some k) task (suc (suc i)) a l t is = absurd (cc)
used_task number (Some m) None task zero a l t is = (Done number task, refl, cc)
used_task number (Some m) None task (suc zero) a l t is = absurd (cc)
used_task number (Some m) None task (suc (suc i)) a l t is = absurd (cc)
used_task number (Some m) (Some k) task zero a l t is = (Open number k task, refl, cc)
used_task number (Some m) (Some k) task (suc zero) a l t is = absurd (cc)
used_task number (Some m) (Some k) task (suc (suc zero)) a l t is = absurd (cc)
used_task number (Some m) (Some k) task (suc (suc (suc i))) a l t is = absurd (cc)

pub uses_at_once : (t : TimedView) (table : Table) (chunks a : ℕ) → UsesAtOnce (program_of (wiring_of t table chunks) a)
uses_at_once t table chunks a =
    each_program t table chunks (λ a es. UsesAtOnce es) (λ a. used_nothing)
    (λ a actor. of_program UsesAtOnce used_nothing used_joins table.tasks chunks a (runs_of table actor)
    (every (λ run. (task : ℕ) → UsesAtOnce (task_events a run task)) (λ run task. used_task a run.take run.lane task) (runs_of table actor)) (run_periods table chunks)) a
