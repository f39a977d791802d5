use Rattle.std.proofs.Common.{rules}
use Rattle.series_routes.proofs.numbers.TableFaultDisplay.fmt.Goals as goal

pub returns-in-Period-clause-writes : goal.returns-in-Period-clause-writes
returns-in-Period-clause-writes g c = search rules
