use Rattle.plan_text.specs.Reading.{IsRateLine}
use Rattle.plan_text.proofs.LineReads.{no_meaning}
use Rattle.plan_text.proofs.head.rate_after.Goals as goal

pub returns-in_default-rate_in : goal.returns-in_default-rate_in
returns-in_default-rate_in c = no_meaning IsRateLine c.args.bytes.now c.in-Some.text.now c.in-Some.rest.now c.in-Some.ensures c.in_default-rate_in.ensures
