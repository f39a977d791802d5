use Rattle.std.proofs.Common.{rules}
use Rattle.chunk_tasks.proofs.chunks.chunk.Goals as goal

pub returns : goal.returns
returns c = search rules
