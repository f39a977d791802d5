use Rattle.std.proofs.Common.{◌≤◌, length, arith, sym, subst}
use Rattle.linear_program.specs.Duality.{IsBounded}
use Rattle.bench_loads.proofs.Pushes.{chain_bounded}
use Rattle.bench_loads.proofs.programme.chain.Goals as goal

pub returns : goal.returns
returns c =
    let size = c.loop-worker.invariant.size in
    let times : c.args.workers ≤ length c.loop-worker.rows = omega (arith, size, c.loop-worker-test.false) in
    let whole : c.args.workers ≤ length c.push_supply.new.rows = omega (arith, times, c.in_ok-push_ports.ensures.length, c.in_ok-push_supply.ensures.length) in
    subst IsBounded (sym c.new.ensures) (chain_bounded c.args.workers c.push_supply.new.rows c.in_ok-gain.gain c.in_ok-push_supply.ensures.chain whole c.in_ok-gain.ensures.gains)
