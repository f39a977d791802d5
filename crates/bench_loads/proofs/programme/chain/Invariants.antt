use Rattle.std.proofs.Common.{◌≡◌, length}
use Rattle.bench_loads.specs.Chains.{IsChain}
use Rattle.bench_loads.proofs.programme.chain.Given as goal

abbrev pub invariant-loop-worker : goal.invariant-loop-worker
invariant-loop-worker l = record {
  chain : IsChain l.workers l.rows;
  size : length l.rows ≡ l.worker;
}
