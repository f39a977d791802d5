-- The programs that are laid out are those of the wiring, and as long as they were counted.
use Rattle.std.proofs.Common.{◌≡◌, ℕ, ◌+◌, ◌*◌, ◌≤◌, ◌^◌, Bool, cond, nat_eq, List, [], ◌∷◌, length, map, filter, max, sum_by, sym, refl, ap, ◌∙◌, inl, inr, arith, All, length-append}
use Rattle.std.proofs.lemmas.Bool.{cases_eq, eq-eqb, ne_eqb, cond-true, cond-false}
use Rattle.std.proofs.lemmas.List.Elements.{All-map, All-weaker}
use Rattle.std.specs.List.{list_any, range_with_len}
use Rattle.std.proofs.lemmas.List.{length-map}
use Rattle.std.proofs.lemmas.List.Sums.{sum_by-cons, length-filter, count_by-le-length}
use Rattle.platform_file.specs.Ticks.{TimedView}
use Rattle.schedule_model.specs.declared.schedule.Series.TheVariants.{Tasking}
use Rattle.step_core.specs.declared.wiring.Event.{Event}
use Rattle.period_table.specs.declared.table.Table.{Table}
use Rattle.period_table.specs.Tables.{Fits}
use Rattle.actor_programs.specs.declared.run.Run.{Run}
use Rattle.actor_programs.specs.Tasks.{batches_of, all_tasks}
use Rattle.actor_programs.specs.Runs.{events_below}
use Rattle.actor_programs.specs.Programs.{actors_of, runs_of, run_periods, program_from, each_numbered}
use Rattle.actor_programs.specs.declared.actor.Actor.TheVariants.{Sender, Consumer}
use Rattle.actor_programs.proofs.Numbers.{length-numbers}
use Rattle.period_table.specs.Lanes.{lanes_of}
use Rattle.step_core.specs.Wirings.{WiringView}
use Rattle.step_core.specs.declared.wiring.Lane.{Lane}
use Rattle.actor_programs.specs.Lengths.{run_length, program_length, programs_from}
use Rattle.actor_programs.proofs.Small.{IsSmall, runs_small, program_laid}
use Rattle.actor_programs.proofs.Gathered.{programs_same}
use Rattle.actor_programs.specs.declared.actor.Actor.{Actor}

module _ (t : TimedView) (table : Table) (fits : Fits t Tasking table) (chunks : ℕ) (some : table.tasks ≡ 0 → chunks ≡ 0) where
  abbrev tasks : ℕ
  tasks = max table.tasks 1

  same_tasks : (chunks ≡ 0 → ⊥) → tasks ≡ table.tasks
  same_tasks more = let least : 1 ≤ table.tasks = positive (λ z. more (some z)) in largest table.tasks least
    where
      positive : (table.tasks ≡ 0 → ⊥) → 1 ≤ table.tasks
      positive ne = omega (arith, ne)

      largest : (n : ℕ) → 1 ≤ n → max n 1 ≡ n
      largest n l = omega arith

  nothing : (runs : List Run) → chunks ≡ 0 → program_length tasks chunks runs ≡ 0
  nothing [] z = refl
  nothing (run ∷ runs) z =
      let e : length (all_tasks tasks chunks run.offset run.count) ≡ 0 = ap (λ n. length (all_tasks tasks n run.offset run.count)) z in
      sums _ _ _ _ (sum_by-cons (run_length tasks chunks) run runs) (nothing runs z) e
    where
      sums : (s l n m : ℕ) → s ≡ l * n + m → m ≡ 0 → n ≡ 0 → s ≡ 0
      sums s l n m e f g = let p : l * n ≡ l * 0 = ap (λ x. l * x) g in let z : l * 0 ≡ 0 = omega arith in omega (arith, e, f, p, z)

  -- an actor's program is as long as it was counted
  pub actor_laid : (number : ℕ) (actor : Actor) → length (program_from table chunks number actor) ≡ program_length tasks chunks (runs_of table actor)
  actor_laid number actor = elim (cases_eq chunks 0) [
    | inl none ↦
        let p : run_periods table chunks ≡ 0 = cond-true (nat_eq chunks 0) 0 (batches_of table.tasks chunks + table.depth) (eq-eqb chunks 0 none) in
        ap (λ n. length (events_below table.tasks chunks number (runs_of table actor) n)) p ∙ sym (nothing (runs_of table actor) none)
    | inr more ↦
        let p : run_periods table chunks ≡ batches_of table.tasks chunks + table.depth = cond-false (nat_eq chunks 0) 0 (batches_of table.tasks chunks + table.depth) (ne_eqb chunks 0 more) in
        let e = same_tasks more in
        ap (λ n. length (events_below table.tasks chunks number (runs_of table actor) n)) p
        ∙ program_laid table.tasks chunks number table.depth (omega (arith, e)) (runs_of table actor) (runs_small t table fits actor)
        ∙ ap (λ n. program_length n chunks (runs_of table actor)) (sym e)
  ]

  pub all_laid : (number : ℕ) (actors : List Actor) → sum_by length (each_numbered (program_from table chunks) number actors) ≡ sum_by (program_length tasks chunks) (map (runs_of table) actors)
  all_laid number [] = refl
  all_laid number (actor ∷ actors) =
      both _ _ _ _ _ _ (sum_by-cons length (program_from table chunks number actor) (each_numbered (program_from table chunks) (number + 1) actors))
      (actor_laid number actor) (all_laid (number + 1) actors) (sum_by-cons (program_length tasks chunks) (runs_of table actor) (map (runs_of table) actors))
    where
      both : (s a b z c d : ℕ) → s ≡ a + b → a ≡ c → b ≡ d → z ≡ c + d → s ≡ z
      both s a b z c d e f g h = omega arith

  laid_same : (number : ℕ) (actor : Actor) → events_below tasks chunks number (runs_of table actor) (run_periods table chunks) ≡ program_from table chunks number actor
  laid_same number actor = elim (cases_eq chunks 0) [
    | inl none ↦
        let p : run_periods table chunks ≡ 0 = cond-true (nat_eq chunks 0) 0 (batches_of table.tasks chunks + table.depth) (eq-eqb chunks 0 none) in
        ap (events_below tasks chunks number (runs_of table actor)) p ∙ sym (ap (events_below table.tasks chunks number (runs_of table actor)) p)
    | inr more ↦ ap (λ n. events_below n chunks number (runs_of table actor) (run_periods table chunks)) (same_tasks more)
  ]

  each_same : (number : ℕ) (actors : List Actor)
      → each_numbered (λ n actor. events_below tasks chunks n (runs_of table actor) (run_periods table chunks)) number actors ≡ each_numbered (program_from table chunks) number actors
  each_same number [] = refl
  each_same number (actor ∷ actors) = rw (laid_same number actor, each_same (number + 1) actors) refl

  pub programs_are : (actors : List Actor) → programs_from tasks chunks (run_periods table chunks) 0 (map (runs_of table) actors) ≡ each_numbered (program_from table chunks) 0 actors
  programs_are actors = programs_same table tasks chunks (run_periods table chunks) 0 actors ∙ each_same 0 actors

  pub same_periods : cond (nat_eq chunks 0) 0 (batches_of tasks chunks + table.depth) ≡ run_periods table chunks
  same_periods = elim (cases_eq chunks 0) [
    | inl none ↦
        cond-true (nat_eq chunks 0) 0 (batches_of tasks chunks + table.depth) (eq-eqb chunks 0 none)
        ∙ sym (cond-true (nat_eq chunks 0) 0 (batches_of table.tasks chunks + table.depth) (eq-eqb chunks 0 none))
    | inr more ↦ ap (λ n. cond (nat_eq chunks 0) 0 (batches_of n chunks + table.depth)) (same_tasks more)
  ]

  -- all runs lie within a batch
  pub all_within : (actors : List Actor) → All (λ runs. All (λ run. run.offset + run.count ≤ tasks) runs) (map (runs_of table) actors)
  all_within actors =
      All-map (λ runs. All (λ run. run.offset + run.count ≤ tasks) runs) (runs_of table) actors
      (λ i d l. All-weaker (IsSmall table.tasks table.depth) (λ run. run.offset + run.count ≤ tasks) (λ run small. wider (run.offset + run.count) table.tasks small.0) _ (runs_small t table fits _))
    where
      wider : (a n : ℕ) → a ≤ n → a ≤ max n 1
      wider a n l = omega arith

  pub all_short : (actors : List Actor) → All (λ runs. All (λ run. run.offset ≤ 2 ^ 108) runs) (map (runs_of table) actors)
  all_short actors =
      All-map (λ runs. All (λ run. run.offset ≤ 2 ^ 108) runs) (runs_of table) actors
      (λ i d l. All-weaker (IsSmall table.tasks table.depth) (λ run. run.offset ≤ 2 ^ 108) (λ run small. omega (arith, small.0, fits.few_tasks)) _ (runs_small t table fits _))

pub few_actors : (t : TimedView) (table : Table) → length (actors_of t table) ≤ length t.platform.links + length t.platform.nodes
few_actors t table =
    let links = map Sender (filter (λ link. list_any (λ lane. nat_eq lane.link link) (lanes_of table.routes)) (range_with_len 0 (length t.platform.links))) in
    let nodes = map Consumer (filter (λ node. list_any (λ route. nat_eq route.end node) table.routes) (range_with_len 0 (length t.platform.nodes))) in
    omega (
      arith,
      length-append links nodes,
      few (λ link. list_any (λ lane. nat_eq lane.link link) (lanes_of table.routes)) Sender (length t.platform.links),
      few (λ node. list_any (λ route. nat_eq route.end node) table.routes) Consumer (length t.platform.nodes),
    )
  where
    few : (p : ℕ → Bool) (make : ℕ → Actor) (n : ℕ) → length (map make (filter p (range_with_len 0 n))) ≤ n
    few p make n =
        omega (arith, length-map (filter p (range_with_len 0 n)) make, length-filter p (range_with_len 0 n), count_by-le-length p (range_with_len 0 n), length-numbers 0 n)

pub same_wiring : (n m : ℕ) (ls ks : List Lane) (ps qs : List (List Event)) → n ≡ m → ls ≡ ks → ps ≡ qs
    → ◌≡◌ {A = WiringView} (record { nodes = n; lanes = ls; programs = ps }) (record { nodes = m; lanes = ks; programs = qs })
same_wiring n m ls ks ps qs e f g = rw (e, f, g) refl
