use Rattle.std.proofs.Common.{rules, ◌<◌, ◌^◌, arith}
use Rattle.run_text.proofs.Lengths.{report_length}
use Rattle.run_text.proofs.report.report_room.Goals as goal

pub returns : goal.returns
returns c = λ events results counts is many.
    let fits = c.ranges.chunks.fits in
    let from = c.from.ensures in
    let tasks : c.args.table.now.tasks < 2 ^ 128 = search rules in
    let depth : c.args.table.now.depth < 2 ^ 32 = search rules in
    omega (arith, report_length c.args.timed.now c.args.table.now events results counts c.known.ensures tasks depth is (omega (arith, many, fits)), many, from)
