use Rattle.std.proofs.Common.{rules, ◌∙◌, [], length, ap, arith}
use Rattle.std.proofs.lemmas.List.{get_or_default}
use Rattle.run_text.specs.Reports.{IsReportable}
use Rattle.run_text.proofs.report.print_report.Goals as goal

pub report_into-requires-clause-room : goal.report_into-requires-clause-room
report_into-requires-clause-room c =
    let is : IsReportable c.args.timed.now c.args.events c.args.results.now c.args.counts.now = record {
      small_events = search rules;
      digests = λ k d within. ap length (get_or_default c.args.results.now k d [] within) ∙ c.told-results k within;
      small_counts = λ k d within. omega (arith, get_or_default c.args.counts.now k d 0 within, c.type_inv.counts k);
      each = c.requires.each;
    } in
    let short = c.report_room.ensures c.args.events c.args.results.now c.args.counts.now is in
    search (rules, short)
