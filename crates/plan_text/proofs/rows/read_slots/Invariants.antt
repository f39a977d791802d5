use Rattle.std.proofs.Common.{[], ◌<◌, ◌^◌, length}
use Rattle.plan_text.specs.Reading.{AreRead}
use Rattle.plan_text.specs.Reading.Place.{at_row}
use Rattle.plan_text.proofs.rows.read_slots.Given as goal

abbrev pub invariant-loop-alloc : goal.invariant-loop-alloc
invariant-loop-alloc l = record {
  read : AreRead (length l.slots) l.timed (at_row l.head l.routes []) l.bytes (at_row l.head l.routes l.slots) l.rest;
  few : length l.slots < 2 ^ 32;
}

abbrev pub decreases-loop-alloc : goal.decreases-loop-alloc
decreases-loop-alloc l = length l.rest
