use Rattle.std.proofs.Common.{rules}
use Rattle.run_text.proofs.batches.batches.Goals as goal

pub returns-clause-batches : goal.returns-clause-batches
returns-clause-batches c = search rules

pub returns-clause-few : goal.returns-clause-few
returns-clause-few c = search rules
