use Rattle.std.proofs.Common.{rules}
use Rattle.series_routes.proofs.numbers.multiple.Goals as goal

pub returns-clause-value : goal.returns-clause-value
returns-clause-value c = search rules
