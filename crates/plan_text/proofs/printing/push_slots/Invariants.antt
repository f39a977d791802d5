use Rattle.std.proofs.Common.{◌≡◌, ◌++◌, drop, string_bytes}
use Rattle.plan_text.specs.Texts.{slots_text}
use Rattle.plan_text.proofs.printing.push_slots.Given as goal

abbrev pub invariant-loop-slot : goal.invariant-loop-slot
invariant-loop-slot l = string_bytes l.out ++ slots_text (drop l.slot-index l.slots) ≡ string_bytes l.fn.out ++ slots_text l.slots
