use Rattle.std.proofs.Common.{◌≢◌, ℕ, ◌<◌}
use Rattle.plan_text.specs.Texts.{name_of}
use Rattle.plan_text.proofs.walks.node_named.Given as goal

abbrev pub invariant-loop-node : goal.invariant-loop-node
invariant-loop-node l = (k : ℕ) → k < l.node → name_of l.timed k ≢ l.name
