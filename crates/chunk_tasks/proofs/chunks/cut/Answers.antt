use Rattle.std.proofs.Common.{rules}
use Rattle.chunk_tasks.proofs.Counts.{count_within, length-items_below, digests_are}
use Rattle.chunk_tasks.proofs.chunks.cut.Goals as goal

pub returns-clause-items : goal.returns-clause-items
returns-clause-items c = search rules

pub returns-clause-chunks : goal.returns-clause-chunks
returns-clause-chunks c = search rules

pub returns-clause-digests : goal.returns-clause-digests
returns-clause-digests c = search (rules, digests_are)

pub returns-clause-count : goal.returns-clause-count
returns-clause-count c = search (rules, length-items_below)

pub returns-clause-few : goal.returns-clause-few
returns-clause-few c = search (rules, count_within, length-items_below)
