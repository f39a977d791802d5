use Rattle.std.proofs.Common.{◌≡◌, ◌++◌, drop, string_bytes}
use Rattle.plan_text.specs.Texts.{routes_text}
use Rattle.plan_text.proofs.printing.push_routes.Given as goal

abbrev pub invariant-loop-number : goal.invariant-loop-number
invariant-loop-number l = string_bytes l.out ++ routes_text l.timed l.number (drop l.number l.routes) ≡ string_bytes l.fn.out ++ routes_text l.timed 0 l.routes
