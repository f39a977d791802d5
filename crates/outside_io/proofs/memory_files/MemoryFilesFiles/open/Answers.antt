use Rattle.std.proofs.Common.{rules}
use Rattle.outside_io.proofs.memory_files.MemoryFilesFiles.open.Goals as goal

pub returns-in-None-clause-open : goal.returns-in-None-clause-open
returns-in-None-clause-open c = search rules

pub returns-in-Some-2-clause-call : goal.returns-in-Some-2-clause-call
returns-in-Some-2-clause-call c = search rules
