use Rattle.std.proofs.Common.{◌≡◌, List, ◌++◌, length}
use Rattle.flow_routes.specs.Flows.{IsKept, only}
use Rattle.flow_routes.specs.Walks.{left_over}
use Rattle.flow_routes.specs.declared.flow.Route.{Route}
use Rattle.flow_routes.proofs.Outcomes.{Continues}
use Rattle.flow_routes.proofs.serving.serve.Given as goal

abbrev pub invariant-loop-left : goal.invariant-loop-left
invariant-loop-left l = record {
  node : l.left.node ≡ l.fn.served.node;
  kind : l.left.kind ≡ l.fn.served.kind;
  size : length l.amounts ≡ length l.initial.amounts;
  kept : IsKept l.master l.links l.amounts (only l.fn.served.node l.left.demand);
  own : List Route;
  grown : l.routes ≡ l.initial.routes ++ own;
  chosen : Continues l.master l.fn.served.kind l.links l.fn.served.node l.initial.amounts l.fn.served.demand l.amounts l.left.demand own;
}

abbrev pub decreases-loop-left : goal.decreases-loop-left
decreases-loop-left l = left_over l.links l.amounts
