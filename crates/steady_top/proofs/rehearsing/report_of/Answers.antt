use Rattle.std.proofs.Common.{rules, ◌≡◌, length, ◌∙◌, ap}
use Rattle.std.proofs.lemmas.List.FromFn.{length-map-range_with_len}
use Rattle.actor_programs.specs.Programs.{actors_of, wiring_of}
use Rattle.chunk_tasks.specs.Chunks.{chunk_count}
use Rattle.run_text.specs.Counts.{dones_at, node_counts}
use Rattle.steady_top.proofs.rehearsing.report_of.Goals as goal

pub print_report-requires-clause-each : goal.print_report-requires-clause-each
print_report-requires-clause-each c =
    let t = c.args.timed.now in
    let table = c.args.table.now in
    let chunks = chunk_count c.args.size c.args.bytes.now in
    let counts : c.deref-2.result.now ≡ node_counts t table chunks = search rules in
    ap length counts ∙ length-map-range_with_len (λ node. dones_at node (actors_of t table) (wiring_of t table chunks)) 0 (length t.platform.nodes)
