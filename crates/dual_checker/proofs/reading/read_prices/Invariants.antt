use Rattle.std.proofs.Common.{◌≡◌, ◌<◌, ◌^◌, Ok, nat_abs, length, All}
use Rattle.dual_checker.specs.Reading.{prices_of}
use Rattle.dual_checker.proofs.reading.read_prices.Given as goal

abbrev pub invariant-loop-row : goal.invariant-loop-row
invariant-loop-row l = record {
  value : prices_of l.row l.bytes ≡ Ok (l.prices, l.rest);
  small : All (λ price. nat_abs price < 2 ^ 127) l.prices;
  rows : length l.prices ≡ l.row;
}
