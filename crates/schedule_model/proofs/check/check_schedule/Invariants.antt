use Rattle.std.proofs.Common.{◌≡◌, ◌≤◌, take, All}
use Rattle.schedule_model.specs.Validity.{IsValid}
use Rattle.schedule_model.specs.Breaches.{first_ops}
use Rattle.schedule_model.proofs.Tallied.{IsTally}
use Rattle.schedule_model.proofs.check.check_schedule.Given as goal

abbrev pub invariant-loop-op : goal.invariant-loop-op
invariant-loop-op l =
    (l.index ≡ l.op-index)
    × IsTally l.timed l.series l.schedule.ticks_per_unit (take l.op-index l.schedule.ops) l.tally
    × IsValid l.timed l.series (first_ops l.schedule l.op-index)
    × (l.op-items ≡ l.schedule.ops)
    × All (λ n. n ≤ l.op-index) l.tally.started
    × All (λ n. n ≤ l.op-index) l.tally.received
    × (l.tally.computed ≤ l.op-index)
