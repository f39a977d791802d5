use Rattle.bench_loads.proofs.Transfers.{AreInChain}
use Rattle.bench_loads.proofs.slots.transfers.Given as goal

abbrev pub invariant-loop-node : goal.invariant-loop-node
invariant-loop-node l = AreInChain l.node l.edges
