use Rattle.std.proofs.Common.{◌≡◌, ◌++◌, drop, string_bytes, codes, decimal}
use Rattle.plan_text.specs.Texts.{pieces_text}
use Rattle.plan_text.proofs.printing.push_slot.Given as goal

abbrev pub invariant-loop-piece : goal.invariant-loop-piece
invariant-loop-piece l = string_bytes l.out ++ pieces_text (drop l.piece-index l.slot.pieces) ≡ string_bytes l.fn.out ++ (codes "slot " ++ (decimal l.slot.duration ++ pieces_text l.slot.pieces))
