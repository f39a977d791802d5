use Rattle.std.proofs.Common.{◌≡◌, ◌↔◌, ℕ, ◌+◌, ◌<◌, inl, inr, Bool, true, false, IsTrue, List, Option, Some, length, set, arith, sym, ◌∙◌, subst}
use Rattle.std.proofs.lemmas.Bool.{cases_eq}
use Rattle.std.proofs.lemmas.List.{get_or-set_same, get_or-set_other}
use Rattle.bipartite_slots.specs.Searches.{holder, is_seen}
use Rattle.bipartite_slots.specs.Choices.{IsHeldBefore}
use Rattle.bipartite_slots.proofs.choice.see_earlier.Invariants.{SeesSome}
use Rattle.bipartite_slots.proofs.choice.see_earlier.Goals as goal

-- one column more has its mark
sees_more : (holders : List (Option ℕ)) (seen : List Bool) (row end : ℕ) (mark : Bool) → end < length seen → IsTrue mark ↔ IsHeldBefore holders row end →
    SeesSome holders seen row end → SeesSome holders (set seen end mark) row (end + 1)
sees_more holders seen row end mark inside tells before = record { held = held; marked = marked }
  where
    here : (column : ℕ) → column ≡ end → is_seen (set seen end mark) column ≡ mark
    here column e = subst (λ n. is_seen (set seen end mark) n ≡ mark) (sym e) (get_or-set_same seen end mark false inside)

    held : (column : ℕ) → column < end + 1 → is_seen (set seen end mark) column ≡ true → IsHeldBefore holders row column
    held column l s =
        elim (cases_eq column end) [
          | inl e ↦ subst (IsHeldBefore holders row) (sym e) (tells.0 (sym (here column e) ∙ s))
          | inr ne ↦ before.held column (omega (arith, ne)) (sym (get_or-set_other seen end column mark false ne) ∙ s)
        ]

    marked : (earlier column : ℕ) → column < end + 1 → earlier < row → holder holders column ≡ Some earlier → is_seen (set seen end mark) column ≡ true
    marked earlier column l less h =
        elim (cases_eq column end) [
          | inl e ↦ here column e ∙ tells.1 (earlier, less, subst (λ n. holder holders n ≡ Some earlier) e h)
          | inr ne ↦ get_or-set_other seen end column mark false ne ∙ before.marked earlier column (omega (arith, ne)) less h
        ]

pub loop-column-preserved : goal.loop-column-preserved
loop-column-preserved c =
    sees_more c.args.holders.now c.loop-column.seen c.args.row c.loop-column.column c.is_held_before.result (omega arith) c.is_held_before.ensures c.loop-column.invariant
