-- Which events are chosen, one after another.
use Rattle.std.proofs.Common.{◌≡◌, ℕ, ◌+◌, ◌<◌, List, [], ◌∷◌, ◌++◌, ◌/◌, ◌^◌, add-one, length, take, sum_by, sym, refl, ap, subst, ◌∙◌, arith, inl, inr, Some, slice_get, length-append, get_or}
use Rattle.std.proofs.lemmas.Bool.{cases_lt}
use Rattle.std.proofs.lemmas.Nat.{mod_below}
use Rattle.std.proofs.lemmas.List.{take-append-le}
use Rattle.std.proofs.lemmas.Option.{slice_get_within, slice_get-get_or, get_or_from_slice_get}
use Rattle.std.proofs.Math.ListN.{get_or-append}
use Rattle.std.proofs.Math.Seq.{get_or-append_seam, take-append_seam}
use Rattle.step_core.specs.declared.wiring.Event.{Event}
use Rattle.step_core.specs.Wirings.{WiringView}
use Rattle.rehearsal.specs.Choices.{number_after, turned, drawn_by, IsChosen, IsRehearsed}

-- where programs have events there are programs
pub some_programs : (programs : List (List Event)) → 0 < sum_by length programs → 0 < length programs
some_programs [] some = some
some_programs (p ∷ programs) some = omega arith

-- the one drawn is one of the actors
pub drawn-within : (actors x : ℕ) → 0 < actors → drawn_by actors x < actors
drawn-within actors x some = mod_below (x / 2 ^ 33) actors some

-- one turn more turns the number once more
pub number-next : (seed turns : ℕ) → turned (number_after seed turns) ≡ number_after seed (turns + 1)
number-next seed turns = rw (add-one turns) refl

earlier : (h : List Event) (e : Event) (k : ℕ) (event : Event) → k < length h → slice_get (h ++ e ∷ []) k ≡ Some event → slice_get h k ≡ Some event
earlier h e k event less is =
    let there : get_or h k event ≡ event = sym (get_or-append h (e ∷ []) event k less) ∙ get_or_from_slice_get (h ++ e ∷ []) k event event is in
    slice_get-get_or h k event less ∙ ap Some there

newest : (h : List Event) (e event : Event) → slice_get (h ++ e ∷ []) (length h) ≡ Some event → e ≡ event
newest h e event is = sym (get_or-append_seam h e [] event) ∙ get_or_from_slice_get (h ++ e ∷ []) (length h) event event is

-- a chosen event carries a rehearsal on
pub rehearsed-more : (w : WiringView) (seed : ℕ) (h : List Event) (e : Event) → IsRehearsed w seed h
    → IsChosen w h (number_after seed (length h + 1)) e → IsRehearsed w seed (h ++ e ∷ [])
rehearsed-more w seed h e old chosen k event is = elim (cases_lt k (length h)) [
  | inl less ↦ rw (take-append-le k h (e ∷ []) (omega arith)) (old k event (earlier h e k event less is))
  | inr least ↦
      let within : k < length (h ++ e ∷ []) = slice_get_within (h ++ e ∷ []) k event is in
      let longer : length (h ++ e ∷ []) ≡ length h + 1 = length-append h (e ∷ []) in
      let same : k ≡ length h = omega arith in
      let here : IsChosen w (take (length h) (h ++ e ∷ [])) (number_after seed (length h + 1)) e = rw (take-append_seam h (e ∷ [])) chosen in
      let is' : slice_get (h ++ e ∷ []) (length h) ≡ Some event = subst (λ (j : ℕ). slice_get (h ++ e ∷ []) j ≡ Some event) same is in
      let of_event = subst (λ (x : Event). IsChosen w (take (length h) (h ++ e ∷ [])) (number_after seed (length h + 1)) x) (newest h e event is') here in
      subst (λ (j : ℕ). IsChosen w (take j (h ++ e ∷ [])) (number_after seed (j + 1)) event) (sym same) of_event
]
