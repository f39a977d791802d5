use Rattle.std.proofs.Common.{arith}
use Rattle.std.proofs.lemmas.Grind.{common_steps}
use Rattle.run_text.proofs.report.push_digest.Goals as goal

pub push_number-requires : goal.push_number-requires
push_number-requires c = grind (arith, common_steps)

pub push_text-requires : goal.push_text-requires
push_text-requires c = grind (arith, common_steps)

pub push_text-requires-2 : goal.push_text-requires-2
push_text-requires-2 c = grind (arith, common_steps)

pub push_text-requires-3 : goal.push_text-requires-3
push_text-requires-3 c = grind (arith, common_steps)

pub returns-clause-text : goal.returns-clause-text
returns-clause-text c = grind (arith, common_steps)

pub returns-clause-len : goal.returns-clause-len
returns-clause-len c = grind (arith, common_steps)
