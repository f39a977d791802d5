use Rattle.std.proofs.Common.{◌≡◌, ℕ, ◌+◌, List, length, map, max, cond, nat_eq, sym, ◌∙◌, ap, subst, arith}
use Rattle.std.proofs.lemmas.List.{length-map}
use Rattle.platform_file.specs.Platform.{NodeView, PlatformView}
use Rattle.platform_file.specs.Ticks.{TimedView}
use Rattle.schedule_model.specs.declared.schedule.Series.TheVariants.{Tasking}
use Rattle.step_core.specs.declared.wiring.Event.{Event}
use Rattle.step_core.specs.declared.wiring.Lane.{Lane}
use Rattle.period_table.specs.Tables.{Fits}
use Rattle.period_table.specs.declared.table.Table.{Table}
use Rattle.step_core.specs.Wirings.{WiringView, IsWellFormedWiring}
use Rattle.actor_programs.specs.declared.run.Run.{Run}
use Rattle.actor_programs.specs.Tasks.{batches_of}
use Rattle.actor_programs.specs.Programs.{actors_of, runs_of, run_periods, wiring_of}
use Rattle.actor_programs.specs.Lengths.{programs_from}
use Rattle.actor_programs.proofs.Formed.{formed}
use Rattle.actor_programs.proofs.Made.{all_short, programs_are, same_periods, few_actors, same_wiring}
use Rattle.actor_programs.proofs.making.laid.Goals as goal

pub programs-requires-clause-actors : goal.programs-requires-clause-actors
programs-requires-clause-actors c =
    let t = c.args.timed.now in
    let table = c.args.table.now in
    let e : length c.args.runs.now ≡ length (map (runs_of table) (actors_of t table)) = ap (λ (rs : List (List Run)). length rs) c.requires.runs in
    omega (arith, e, length-map (actors_of t table) (runs_of table), few_actors t table, c.known.ensures.platform.few_links, c.known.ensures.platform.few_nodes)

pub programs-requires-clause-offsets : goal.programs-requires-clause-offsets
programs-requires-clause-offsets c =
    rw c.requires.runs (all_short c.args.timed.now c.args.table.now c.requires.can.fits c.args.chunks c.requires.can.some (actors_of c.args.timed.now c.args.table.now))

-- what was made is the wiring
module _ (t : TimedView) (table : Table) (fits : Fits t Tasking table) (chunks : ℕ) (some : table.tasks ≡ 0 → chunks ≡ 0) where
  made : (nodes tasks batches periods : ℕ) (lanes : List Lane) (runs : List (List Run)) (programs : List (List Event)) → nodes ≡ length t.platform.nodes
      → lanes ≡ (wiring_of t table chunks).lanes → tasks ≡ max table.tasks 1 → batches ≡ batches_of tasks chunks → periods ≡ cond (nat_eq chunks 0) 0 (batches + table.depth)
      → runs ≡ map (runs_of table) (actors_of t table) → programs ≡ programs_from tasks chunks periods 0 runs
      → ◌≡◌ {A = WiringView} (record { nodes = nodes; lanes = lanes; programs = programs }) (wiring_of t table chunks)
  made nodes tasks batches periods lanes runs programs n l top b p r g =
      let whole_batches : batches ≡ batches_of (max table.tasks 1) chunks = b ∙ ap (λ n. batches_of n chunks) top in
      let all_periods : periods ≡ run_periods table chunks = p ∙ ap (λ n. cond (nat_eq chunks 0) 0 (n + table.depth)) whole_batches ∙ same_periods t table fits chunks some in
      same_wiring _ _ _ _ _ _ n l
      (g ∙ ap (λ n. programs_from n chunks periods 0 runs) top
      ∙ ap (λ n. programs_from (max table.tasks 1) chunks n 0 runs) all_periods
      ∙ ap (λ (rs : List (List Run)). programs_from (max table.tasks 1) chunks (run_periods table chunks) 0 rs) r
      ∙ programs_are t table fits chunks some (actors_of t table))

pub new-requires : goal.new-requires
new-requires c =
    let t = c.args.timed.now in
    let nodes : length c.nodes.result.now ≡ length t.platform.nodes =
    ap (λ (ns : List NodeView). length ns) c.nodes.ensures ∙ ap (λ (p : PlatformView). length p.nodes) c.platform.ensures in
    let whole = made t c.args.table.now c.requires.can.fits c.args.chunks c.requires.can.some _ c.max-tasks.result c.batches_of-batches.result c.periods_of-periods.result _ c.args.runs.now _
    nodes c.in_ok-lanes.ensures c.max-tasks.ensures c.batches_of-batches.ensures.value c.periods_of-periods.ensures c.requires.runs c.in_ok-programs.ensures in
    subst IsWellFormedWiring (sym whole) (formed t c.args.table.now c.args.chunks c.known.ensures c.requires.can.fits c.requires.numbers)

pub returns : goal.returns
returns c =
    let t = c.args.timed.now in
    let nodes : length c.nodes.result.now ≡ length t.platform.nodes =
    ap (λ (ns : List NodeView). length ns) c.nodes.ensures ∙ ap (λ (p : PlatformView). length p.nodes) c.platform.ensures in
    c.new.ensures
    ∙ made t c.args.table.now c.requires.can.fits c.args.chunks c.requires.can.some _ c.max-tasks.result c.batches_of-batches.result c.periods_of-periods.result _ c.args.runs.now _
    nodes c.in_ok-lanes.ensures c.max-tasks.ensures c.batches_of-batches.ensures.value c.periods_of-periods.ensures c.requires.runs c.in_ok-programs.ensures
