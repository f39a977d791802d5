use Rattle.std.proofs.Common.{◌≡◌, ℕ, ◌-◌, ◌^◌, List, map, min, max, sum_by, sym, ◌∙◌, ap, arith, subst, All}
use Rattle.platform_file.specs.Ticks.{TimedView}
use Rattle.period_table.specs.declared.table.Table.{Table}
use Rattle.actor_programs.specs.declared.run.Run.{Run}
use Rattle.actor_programs.specs.Programs.{actors_of, runs_of}
use Rattle.actor_programs.specs.Lengths.{program_length}
use Rattle.actor_programs.specs.Faults.{events_in}
use Rattle.actor_programs.proofs.Made.{all_laid, all_within}
use Rattle.step_core.specs.Wirings.{WiringView}
use Rattle.actor_programs.specs.Carried.{IsRoomy}
use Rattle.actor_programs.proofs.Carried.{all_roomy}
use Rattle.actor_programs.proofs.making.counted.Goals as goal

pub all_events-events-requires-clause-within : goal.all_events-events-requires-clause-within
all_events-events-requires-clause-within c =
    rw (c.requires.runs, c.max.ensures)
    (all_within c.args.timed.now c.args.table.now c.requires.can.fits c.args.chunks c.requires.can.some (actors_of c.args.timed.now c.args.table.now))

same_count : (t : TimedView) (table : Table) (chunks events tasks : ℕ) (runs : List (List Run)) → events ≡ min (sum_by (program_length tasks chunks) runs) (2 ^ 64 - 1)
    → runs ≡ map (runs_of table) (actors_of t table) → tasks ≡ max table.tasks 1
    → events_in t table chunks ≡ sum_by (program_length (max table.tasks 1) chunks) (map (runs_of table) (actors_of t table)) → events ≡ min (events_in t table chunks) (2 ^ 64 - 1)
same_count t table chunks events tasks runs e f g h =
    e ∙ ap (λ rs. min (sum_by (program_length tasks chunks) rs) (2 ^ 64 - 1)) f
    ∙ ap (λ n. min (sum_by (program_length n chunks) (map (runs_of table) (actors_of t table))) (2 ^ 64 - 1)) g
    ∙ ap (λ n. min n (2 ^ 64 - 1)) (sym h)

pub returns-then-events-gt-MOST_EVENTS-clause-fault : goal.returns-then-events-gt-MOST_EVENTS-clause-fault
returns-then-events-gt-MOST_EVENTS-clause-fault c =
    let t = c.args.timed.now in
    let table = c.args.table.now in
    let all = all_laid t table c.requires.can.fits c.args.chunks c.requires.can.some 0 (actors_of t table) in
    let is = same_count t table c.args.chunks c.all_events-events.result c.max.result c.args.runs.now c.all_events-events.ensures c.requires.runs c.max.ensures all in
    (omega (arith, is, c.if-events-gt-MOST_EVENTS.true), is)

pub returns-clause-short : goal.returns-clause-short
returns-clause-short c =
    let t = c.args.timed.now in
    let table = c.args.table.now in
    let all = all_laid t table c.requires.can.fits c.args.chunks c.requires.can.some 0 (actors_of t table) in
    let is = same_count t table c.args.chunks c.all_events-events.result c.max.result c.args.runs.now c.all_events-events.ensures c.requires.runs c.max.ensures all in
    omega (arith, is, c.if-events-gt-MOST_EVENTS.false)

pub returns-clause-roomy : goal.returns-clause-roomy
returns-clause-roomy c =
    subst (λ (w : WiringView). All IsRoomy w.lanes) (sym c.in_ok-laid.ensures) (all_roomy c.args.timed.now c.args.table.now c.args.chunks c.requires.can (returns-clause-short c))
