use Rattle.std.proofs.Common.{ℕ, ◌<◌}
use Rattle.plan_text.specs.Walks.{IsHop}
use Rattle.plan_text.proofs.walks.hop_to.Given as goal

abbrev pub invariant-loop-link : goal.invariant-loop-link
invariant-loop-link l = (k : ℕ) → k < l.link → IsHop l.timed l.at l.name k → ⊥
