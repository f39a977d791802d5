use Rattle.std.proofs.Common.{rules}
use Rattle.platform_file.proofs.Units.{ends, goes_on}
use Rattle.platform_file.proofs.scaling.unit_of.Goals as goal

pub returns : goal.returns
returns c = search (rules, ends, goes_on)
