use Rattle.std.proofs.Common.{◌≡◌, ◌≤◌, drop, map}
use Rattle.series_routes.specs.Numbers.{multiple_of, common_denominator}
use Rattle.series_routes.specs.declared.numbers.PeriodStep.TheVariants.{Denominators}
use Rattle.series_routes.proofs.numbers.common_denominator.Given as goal

abbrev pub invariant-loop-value : goal.invariant-loop-value
invariant-loop-value l = record {
  some : 1 ≤ l.common;
  rest : multiple_of Denominators l.common (map (λ value. value.den) (drop l.value-index l.values)) ≡ common_denominator l.values;
}
