use Rattle.std.proofs.Common.{◌≡◌, drop}
use Rattle.series_routes.specs.Numbers.{goes_over}
use Rattle.series_routes.proofs.numbers.is_in_use.Given as goal

abbrev pub invariant-loop-flow : goal.invariant-loop-flow
invariant-loop-flow l = goes_over (drop l.flow-index l.flows) l.link ≡ goes_over l.flows l.link
