use Rattle.std.proofs.Common.{rules}
use Rattle.tasking_program.proofs.rows.is_limited.Goals as goal

pub returns-in-Supply : goal.returns-in-Supply
returns-in-Supply c = search rules

pub returns-in-Send : goal.returns-in-Send
returns-in-Send c = search rules
