use Rattle.std.proofs.Common.{◌≡◌, ℕ, ◌+◌, ◌^◌, ◌≤◌, ◌≢◌, min, arith}
use Rattle.period_table.proofs.fitting.each_kind_has.Goals as goal

pub returns-then-kind_within-tasks-clause-no : goal.returns-then-kind_within-tasks-clause-no
returns-then-kind_within-tasks-clause-no c = λ all. absurd (differ _ _ _ c.kind_within.ensures c.requires.tasks (all c.loop-kind.kind c.loop-kind-test.true) c.if-kind_within-tasks.true)
  where
    differ : (found tasks sum : ℕ) → found ≡ min sum (2 ^ 107 + 1) → tasks ≤ 2 ^ 107 → tasks ≡ sum → found ≢ tasks → ⊥
    differ found tasks sum e l f n = n (omega (arith, e, l, f))
