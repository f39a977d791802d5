use Rattle.std.proofs.Common.{[], length}
use Rattle.plan_text.specs.Reading.{AreRead}
use Rattle.plan_text.specs.Reading.Place.{at_row}
use Rattle.plan_text.proofs.rows.read_routes.Given as goal

abbrev pub invariant-loop-routes : goal.invariant-loop-routes
invariant-loop-routes l = AreRead (length l.routes) l.timed (at_row l.head [] []) l.bytes (at_row l.head l.routes []) l.rest

abbrev pub decreases-loop-routes : goal.decreases-loop-routes
decreases-loop-routes l = length l.rest
