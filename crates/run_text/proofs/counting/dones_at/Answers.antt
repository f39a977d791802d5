use Rattle.std.proofs.Common.{◌≤◌, length, arith}
use Rattle.step_core.specs.Wirings.{program_of}
use Rattle.run_text.proofs.Counts.{one_more, one_longer}
use Rattle.run_text.proofs.counting.dones_at.Goals as goal

pub overflow_cast-number : goal.overflow_cast-number
overflow_cast-number c = omega (arith, c.loop-number-test.true, c.requires.each, c.known.ensures.few_actors)

pub loop-number-preserved : goal.loop-number-preserved
loop-number-preserved c =
    let node = c.args.node in
    let actors = c.args.actors.now in
    let w = c.args.wiring.now in
    let n = c.loop-number.number in
    let more = c.dones_of-count.result in
    let few : more ≤ length (program_of w n) = rw (← c.program.ensures) c.dones_of-count.ensures.few in
    record {
      value = one_more node actors w n c.loop-number.count more c.program.result.now _ c.loop-number-test.true c.loop-number.invariant.value c.program.ensures c.dones_of-count.ensures.value;
      few = one_longer w n c.loop-number.count more (omega (arith, c.loop-number-test.true, c.requires.each)) c.loop-number.invariant.few few;
    }
