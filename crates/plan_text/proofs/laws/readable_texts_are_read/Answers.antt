use Rattle.plan_text.proofs.Readable.{readable, determined}
use Rattle.plan_text.proofs.laws.readable_texts_are_read.Goals as goal

pub returns-clause-read : goal.returns-clause-read
returns-clause-read c = λ t series table number timed fits lanes32 short fault. readable t timed series table number fits lanes32 short fault

pub returns-clause-determined : goal.returns-clause-determined
returns-clause-determined c = λ t series other table second timed fits also lanes32 lanes short same. determined t timed series other table second fits also lanes32 lanes short same
