-- A seed decides each event.
use Rattle.std.proofs.Common.{◌≡◌, ℕ, zero, suc, ◌+◌, ◌<◌, ◌≤◌, List, [], ◌∷◌, ◌++◌, length, take, sym, refl, ap, subst, ◌∙◌, arith, inl, inr, Some, slice_get}
use Rattle.std.proofs.Math.Seq.{take-length}
use Rattle.std.proofs.lemmas.Bool.{cases_order}
use Rattle.std.proofs.lemmas.Option.{same_Some}
use Rattle.step_core.specs.declared.wiring.Event.{Event}
use Rattle.step_core.specs.Wirings.{WiringView}
use Rattle.step_core.specs.Histories.{IsEnabled}
use Rattle.rehearsal.specs.Choices.{number_after, tried_after, IsFirstFrom, IsChosen, IsRehearsed}

-- an actor has one next event at most
one-next : (w : WiringView) (h : List Event) (actor : ℕ) (e f : Event) → IsEnabled w h actor e → IsEnabled w h actor f → e ≡ f
one-next w h actor e f one other = same_Some e f (sym one.0 ∙ other.0)

-- one event at most is chosen
one-first : (w : WiringView) (h : List Event) (first : ℕ) (e f : Event) → IsFirstFrom w h first e → IsFirstFrom w h first f → e ≡ f
one-first w h first e f one other = elim (cases_order one.others other.others) [
  | inl same ↦
      let there : IsEnabled w h (tried_after (length w.programs) first one.others) f =
      subst (λ (j : ℕ). IsEnabled w h (tried_after (length w.programs) first j) f) (sym same) other.enabled in
      one-next w h (tried_after (length w.programs) first one.others) e f one.enabled there
  | inr differ ↦ elim differ [
    | inl less ↦ absurd (other.before one.others e less one.enabled)
    | inr more ↦ absurd (one.before other.others f more other.enabled)
  ]
]

none_below : (n : ℕ) → n < 0 → ⊥
none_below n less = omega arith

-- the front that is one longer ends in the event at its place
one-longer : (h : List Event) (n : ℕ) → n < length h → (e : Event) × (slice_get h n ≡ Some e) × (take (suc n) h ≡ take n h ++ e ∷ [])
one-longer [] n less = absurd (none_below n less)
one-longer (x ∷ h) zero less = (x, refl, refl)
one-longer (x ∷ h) (suc n) less =
    let rest = one-longer h n (omega arith) in
    (rest.0, rest.1, ap (λ (ys : List Event). x ∷ ys) rest.2)

-- as long as both go on they are the same
same-fronts : (w : WiringView) (seed : ℕ) (h k : List Event) → IsRehearsed w seed h → IsRehearsed w seed k
    → (n : ℕ) → n ≤ length h → n ≤ length k → take n h ≡ take n k
same-fronts w seed h k one other zero a b = refl
same-fronts w seed h k one other (suc n) a b =
    let same = same-fronts w seed h k one other n (omega arith) (omega arith) in
    let mine = one-longer h n (omega arith) in
    let its = one-longer k n (omega arith) in
    let chosen : IsChosen w (take n h) (number_after seed (n + 1)) its.0 =
    subst (λ (front : List Event). IsChosen w front (number_after seed (n + 1)) its.0) (sym same) (other n its.0 its.1) in
    let event : mine.0 ≡ its.0 = one-first w (take n h) _ mine.0 its.0 (one n mine.0 mine.1) chosen in
    mine.2 ∙ ap (λ (front : List Event). front ++ mine.0 ∷ []) same ∙ ap (λ (e : Event). take n k ++ e ∷ []) event ∙ sym its.2

pub same-histories : (w : WiringView) (seed : ℕ) (h k : List Event) → IsRehearsed w seed h → IsRehearsed w seed k → length h ≡ length k → h ≡ k
same-histories w seed h k one other long =
    let same = same-fronts w seed h k one other (length h) (omega arith) (omega arith) in
    sym (take-length h) ∙ same ∙ ap (λ (n : ℕ). take n k) long ∙ take-length k
