use Rattle.std.proofs.Common.{rules}
use Rattle.flow_routes.proofs.serving.serve_master.Goals as goal

pub returns-in_ok-push : goal.returns-in_ok-push
returns-in_ok-push c = search rules
