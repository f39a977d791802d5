use Rattle.std.proofs.Common.{rules}
use Rattle.outside_io.proofs.files.read_whole.Goals as goal

pub returns-in-Ok : goal.returns-in-Ok
returns-in-Ok g c = search rules
