use Rattle.parts_tests.specs.HandOvers.{hand_over_periods}
use Rattle.parts_tests.proofs.Pacing.{paced}
use Rattle.parts_tests.proofs.tests.rehearsals.gives.Goals as goal

pub rehearse-requires-clause-paced : goal.rehearse-requires-clause-paced
rehearse-requires-clause-paced c = (hand_over_periods, rw c.requires paced)
