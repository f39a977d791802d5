use Rattle.std.proofs.Common.{◌^◌, ◌∙◌, arith}
use Rattle.actor_programs.proofs.Formed.{few_lanes}
use Rattle.actor_programs.proofs.making.wiring.Goals as goal

pub places_of-requires-clause-short : goal.places_of-requires-clause-short
places_of-requires-clause-short c = rw c.as_slice-2.ensures (omega (arith, c.requires.fits.depth, c.is_known.ensures))

pub patterns-requires-clause-lanes : goal.patterns-requires-clause-lanes
patterns-requires-clause-lanes c = few_lanes c.args.timed.now c.args.table.now c.requires.fits (2 ^ 32) (rw c.as_slice.ensures at c.slots_known.ensures)

pub patterns-requires-clause-short : goal.patterns-requires-clause-short
patterns-requires-clause-short c = omega (arith, c.requires.fits.depth, c.is_known.ensures)

pub counted-requires-clause-can : goal.counted-requires-clause-can
counted-requires-clause-can c = record { timed = c.known.ensures; fits = c.requires.fits; some = c.requires.some }

pub counted-requires-clause-numbers : goal.counted-requires-clause-numbers
counted-requires-clause-numbers c = rw c.as_slice.ensures at c.slots_known.ensures

pub counted-requires-clause-runs : goal.counted-requires-clause-runs
counted-requires-clause-runs c = c.as_slice-5.ensures ∙ c.in_ok-runs.ensures
