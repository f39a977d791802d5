use Rattle.std.proofs.Common.{rules}
use Rattle.chunk_tasks.proofs.digests.digest_item.Goals as goal

pub returns-clause-id : goal.returns-clause-id
returns-clause-id c = search rules

pub returns-clause-digest : goal.returns-clause-digest
returns-clause-digest c = search rules
