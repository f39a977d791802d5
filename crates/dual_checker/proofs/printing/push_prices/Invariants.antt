use Rattle.std.proofs.Common.{◌≡◌, ◌++◌, take, string_bytes}
use Rattle.dual_checker.specs.Texts.{prices_text}
use Rattle.dual_checker.proofs.printing.push_prices.Given as goal

abbrev pub invariant-loop-row : goal.invariant-loop-row
invariant-loop-row l = string_bytes l.out ≡ string_bytes l.initial.out ++ prices_text 0 (take l.row l.prices)
