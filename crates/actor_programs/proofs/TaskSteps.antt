-- Steps of laying out a program.
use Rattle.std.proofs.Common.{◌≡◌, ℕ, zero, suc, ◌+◌, ◌-◌, ◌*◌, ◌/◌, ◌<◌, ◌≤◌, ◌^◌, true, false, nat_eq, nat_lt, nat_le, List, ◌++◌, filter, sym, refl, ap, ◌∙◌, inl, inr, arith}
use Rattle.std.specs.List.{flat_map, range_with_len}
use Rattle.std.proofs.lemmas.Bool.{cases_eq, eq-eqb, ne_eqb, cond-true, lt-ltb, le-leb, lt-leb}
use Rattle.std.proofs.lemmas.List.{append-nil}
use Rattle.std.proofs.Math.Nat.{mul-le-mul_right}
use Rattle.step_core.specs.declared.wiring.Event.{Event}
use Rattle.actor_programs.specs.declared.run.Run.{Run}
use Rattle.actor_programs.specs.Tasks.{batches_of}
use Rattle.actor_programs.specs.Runs.{run_tasks}
use Rattle.actor_programs.proofs.Numbers.{none_below, nothing_past}

-- no task from here on exists
pub stopped : (f : ℕ → List Event) (out all : List Event) (task left chunks : ℕ) → chunks ≤ task
    → out ++ flat_map f (filter (λ t. nat_lt t chunks) (range_with_len task left)) ≡ all → out ≡ all
stopped f out all task left chunks past e =
    sym (append-nil out) ∙ ap (λ ts. out ++ flat_map f ts) (sym (none_below chunks task left past)) ∙ e

-- one task more
pub one_task : (f : ℕ → List Event) (task left chunks : ℕ) → 0 < left → task < chunks
    → flat_map f (filter (λ t. nat_lt t chunks) (range_with_len task left)) ≡ f task ++ flat_map f (filter (λ t. nat_lt t chunks) (range_with_len (task + 1) (left - 1)))
one_task f task zero chunks some less = absurd (omega arith)
one_task f task (suc left) chunks some less =
    let e : suc left - 1 ≡ left = omega arith in
    let there : nat_lt task chunks ≡ true = lt-ltb task chunks less in
    rw (e, there) refl

-- a run has no task in a period before it, and after the last batch
pub too_early : (f : ℕ → List Event) (out : List Event) (tasks chunks period : ℕ) (run : Run) → period < run.hop → out ≡ out ++ flat_map f (run_tasks tasks chunks period run)
too_early f out tasks chunks period run less =
    let early : nat_le run.hop period ≡ false = lt-leb run.hop period less in rw early (sym (append-nil out))

pub too_late : (f : ℕ → List Event) (out : List Event) (tasks chunks period : ℕ) (run : Run) → 1 ≤ tasks → run.hop ≤ period → batches_of tasks chunks ≤ period - run.hop
    → out ≡ out ++ flat_map f (run_tasks tasks chunks period run)
too_late f out tasks chunks period run some le past =
    let come : nat_le run.hop period ≡ true = le-leb run.hop period le in
    rw (come, nothing_past tasks chunks run.offset run.count some (period - run.hop) past) (sym (append-nil out))

pub in_time : (f : ℕ → List Event) (tasks chunks period : ℕ) (run : Run) → run.hop ≤ period
    → run_tasks tasks chunks period run ≡ filter (λ t. nat_lt t chunks) (range_with_len ((period - run.hop) * tasks + run.offset) run.count)
in_time f tasks chunks period run le = let come : nat_le run.hop period ≡ true = le-leb run.hop period le in rw come refl

-- a batch begins below the last chunk
pub begins_early : (tasks chunks batch : ℕ) → 1 ≤ tasks → chunks ≤ 2 ^ 28 → batch < batches_of tasks chunks → batch * tasks < 2 ^ 28
begins_early tasks chunks batch some few less = elim (cases_eq chunks 0) [
  | inl none ↦
      let is : nat_eq chunks 0 ≡ true = eq-eqb chunks 0 none in
      let nothing : batches_of tasks chunks ≡ 0 = cond-true (nat_eq chunks 0) 0 ((chunks + (tasks - 1)) / tasks) is in
      absurd (omega (arith, less, nothing))
  | inr more ↦
      let is : nat_eq chunks 0 ≡ false = ne_eqb chunks 0 more in
      let few_batches : batch < (chunks + (tasks - 1)) / tasks = rw is at less in
      let prod : (batch + 1) * tasks ≤ ((chunks + (tasks - 1)) / tasks) * tasks = mul-le-mul_right tasks (omega (arith, few_batches)) in
      let one : (batch + 1) * tasks ≡ batch * tasks + tasks = omega arith in
      whole (batch * tasks) ((chunks + (tasks - 1)) / tasks) (chunks + (tasks - 1)) (omega (arith, prod, one)) (omega arith) (omega arith)
]
  where
    whole : (b q x : ℕ) → b + tasks ≤ q * tasks → q * tasks ≤ x → chunks + (tasks - 1) ≡ x → b < 2 ^ 28
    whole b q x h l e = omega (arith, few, some)
