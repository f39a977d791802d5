use Rattle.std.proofs.Common.{length}
use Rattle.flow_routes.specs.Walks.{unmarked}
use Rattle.flow_routes.proofs.Walking.{IsWalking}
use Rattle.flow_routes.proofs.walk.walk_back.Given as goal

abbrev pub invariant-loop-at : goal.invariant-loop-at
invariant-loop-at l = IsWalking l.master l.links l.amounts l.node (length l.marked) l.path l.marked l.at

abbrev pub decreases-loop-at : goal.decreases-loop-at
decreases-loop-at l = unmarked l.marked
