-- One step of a state: the guards that it tries, and what it counts.
use Rattle.std.specs.Prelude.{◌≡◌, ◌≢◌, ℕ, ◌+◌, ◌<◌, ◌==◌, ◌^◌, length, slice_get, slice_set, replicate, cond, Option, Some, None}
use Rattle.step_core.specs.declared.wiring.Event.{Event}
use Rattle.step_core.specs.declared.wiring.Event.TheVariants.{Take, Open, Close, Done}
use Rattle.step_core.specs.declared.wiring.Lane.{Lane}
use Rattle.step_core.specs.declared.state.LaneCounts.{LaneCounts}
use Rattle.step_core.specs.declared.refusal.NotYet.{NotYet}
use Rattle.step_core.specs.declared.refusal.NotYet.TheVariants.{Empty, SendBusy, ReceiveBusy, Full}
use Rattle.step_core.specs.Wirings.{WiringView}
use Rattle.step_core.specs.States.{StateView, made_at, counts_at, port_at}

-- a state with nothing counted and no port held
abbrev pub untouched : ℕ → ℕ → ℕ → StateView
untouched actors lanes nodes = record {
  made = replicate actors 0;
  lanes = replicate lanes (record { opened = 0; closed = 0; taken = 0 });
  sends = replicate nodes None;
  receives = replicate nodes None;
}

-- what an Open waits for, by the ports of its nodes and the counts of its lane
abbrev pub failed_open : Lane → Option ℕ → Option ℕ → LaneCounts → Option NotYet
failed_open lane (Some busy) receives c = Some (SendBusy busy)
failed_open lane None (Some busy) c = Some (ReceiveBusy busy)
failed_open lane None None c = cond (c.opened == c.taken + lane.capacity) (Some (Full c.opened c.taken)) None

-- what a Take waits for, by the counts of its lane
abbrev pub failed_take : LaneCounts → Option NotYet
failed_take c = cond (c.taken == c.closed) (Some (Empty c.taken c.closed)) None

-- what an event waits for in a state, if for anything
abbrev pub IsObstacle : WiringView → StateView → Event → Option NotYet → Type 0
IsObstacle w s (Take a l t) o = o ≡ failed_take (counts_at s l)
IsObstacle w s (Open a l t) o = (lane : Lane) → slice_get w.lanes l ≡ Some lane
    → o ≡ failed_open lane (port_at s.sends lane.sender) (port_at s.receives lane.receiver) (counts_at s l)
IsObstacle w s (Close a l t) o = o ≡ None
IsObstacle w s (Done a t) o = o ≡ None

-- the state after a Take from a lane
abbrev pub after_take : ℕ → StateView → StateView
after_take l s = let c = counts_at s l in record s { lanes = slice_set s.lanes l (record c { taken = c.taken + 1 }) }

-- the state after an Open of a lane
abbrev pub after_open : Lane → ℕ → StateView → StateView
after_open lane l s = let c = counts_at s l in record s {
  lanes = slice_set s.lanes l (record c { opened = c.opened + 1 });
  sends = slice_set s.sends lane.sender (Some l);
  receives = slice_set s.receives lane.receiver (Some l);
}

-- the state after a Close of a lane
abbrev pub after_close : Lane → ℕ → StateView → StateView
after_close lane l s = let c = counts_at s l in record s {
  lanes = slice_set s.lanes l (record c { closed = c.closed + 1 });
  sends = slice_set s.sends lane.sender None;
  receives = slice_set s.receives lane.receiver None;
}

-- one actor has made one more event, and nothing else has changed
pub record HasAdvanced (actor : ℕ) (old new : StateView) : Type 0 where
  pub size : length new.made ≡ length old.made
  pub own : made_at new actor ≡ made_at old actor + 1
  pub others : (other : ℕ) → other ≢ actor → made_at new other ≡ made_at old other
  pub lanes : new.lanes ≡ old.lanes
  pub sends : new.sends ≡ old.sends
  pub receives : new.receives ≡ old.receives

-- the state after an event
abbrev pub IsMade : WiringView → StateView → Event → StateView → Type 0
IsMade w old (Take a l t) new = HasAdvanced a (after_take l old) new
IsMade w old (Open a l t) new = (lane : Lane) → slice_get w.lanes l ≡ Some lane → HasAdvanced a (after_open lane l old) new
IsMade w old (Close a l t) new = (lane : Lane) → slice_get w.lanes l ≡ Some lane → HasAdvanced a (after_close lane l old) new
IsMade w old (Done a t) new = HasAdvanced a old new

-- the actor's count can rise
abbrev pub CanAdvance : WiringView → StateView → ℕ → Type 0
CanAdvance w s actor = (actor < length w.programs) × (made_at s actor + 1 < 2 ^ 64)

-- the lane of an event exists, and a count of it can rise
abbrev pub IsCountable : WiringView → StateView → ℕ → ℕ → Type 0
IsCountable w s lane count = (lane < length w.lanes) × (count + 1 < 2 ^ 64)

-- the counts that an event raises can rise
abbrev pub CanRise : WiringView → StateView → Event → Type 0
CanRise w s (Take a l t) = CanAdvance w s a × IsCountable w s l (counts_at s l).taken
CanRise w s (Open a l t) = CanAdvance w s a × IsCountable w s l (counts_at s l).opened
CanRise w s (Close a l t) = CanAdvance w s a × IsCountable w s l (counts_at s l).closed
CanRise w s (Done a t) = CanAdvance w s a
