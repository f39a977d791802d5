use Rattle.std.proofs.Common.{length, sym, ◌∙◌, ap}
use Rattle.run_text.proofs.Counts.{as_many}
use Rattle.run_text.proofs.counting.node_counts.Goals as goal

pub counts_of-requires-clause-each : goal.counts_of-requires-clause-each
counts_of-requires-clause-each c =
    ap length (c.as_slice.ensures ∙ c.in_ok-actors.ensures.actors)
    ∙ sym (ap (λ w. length w.programs) c.requires.wiring ∙ as_many c.args.timed.now c.args.table.now c.args.chunks)
