use Rattle.std.proofs.Common.{◌≡◌, length}
use Rattle.flow_routes.specs.Flows.{IsKept}
use Rattle.flow_routes.proofs.Chosen.{remaining, GoesOn}
use Rattle.flow_routes.proofs.serving.routes.Given as goal

abbrev pub invariant-loop-node : goal.invariant-loop-node
invariant-loop-node l = record {
  size : length l.amounts.items ≡ length l.flow.links;
  marks : length l.marked.items ≡ l.flow.nodes;
  kept : IsKept l.flow.master l.flow.links l.amounts.items (remaining l.flow.demands l.node);
  chosen : GoesOn l.flow l.kind l.node l.amounts.items l.routes;
}
