use Rattle.std.proofs.Common.{◌≡◌, slice_index, drop}
use Rattle.schedule_model.specs.Tallies.{place_of, deliveries_of}
use Rattle.schedule_model.proofs.Least.{least_with}
use Rattle.schedule_model.proofs.tally.Tally.least_delivered.Given as goal

abbrev pub invariant-loop-target : goal.invariant-loop-target
invariant-loop-target l =
    (l.kind ≡ l.target-index)
    × (least_with (slice_index l.self.received (place_of 0 (slice_index l.targets 0))) (deliveries_of l.self 0 l.targets)
    ≡ least_with l.least (deliveries_of l.self l.kind (drop l.target-index l.targets)))
