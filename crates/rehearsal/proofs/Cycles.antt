-- The order in which actors are tried.
use Rattle.std.proofs.Common.{◌≡◌, ℕ, ◌+◌, ◌-◌, ◌<◌, ◌%◌, ◌∙◌, ap, arith, inl, inr}
use Rattle.std.proofs.Math.Nat.{add-mod_left, mod-add-mod, mod-eq_of_lt}
use Rattle.std.proofs.lemmas.Bool.{cases_lt}
use Rattle.rehearsal.specs.Choices.{tried_after}

-- the first is tried once none has been
pub tried-first : (actors first : ℕ) → first < actors → tried_after actors first 0 ≡ first
tried-first actors first within =
    let none : first + 0 ≡ first = omega arith in
    rw none (mod-eq_of_lt within)

-- the one after an actor is tried once that actor has been, too
pub tried-next : (actors first others : ℕ) → (tried_after actors first others + 1) % actors ≡ tried_after actors first (others + 1)
tried-next actors first others =
    let moved : (first + others) + 1 ≡ first + (others + 1) = omega arith in
    mod-add-mod (first + others) actors 1 ∙ ap (λ (x : ℕ). x % actors) moved

-- each actor's turn to be tried comes before all have been
pub tried-all : (actors first actor : ℕ) → first < actors → actor < actors
    → (others : ℕ) × (others < actors) × (tried_after actors first others ≡ actor)
tried-all actors first actor within below = elim (cases_lt actor first) [
  | inl less ↦
      (let around : first + ((actors + actor) - first) ≡ actors + actor = omega arith in
      ((actors + actor) - first, omega arith, ap (λ (x : ℕ). x % actors) around ∙ add-mod_left actors actor ∙ mod-eq_of_lt below))
  | inr least ↦
      (let ahead : first + (actor - first) ≡ actor = omega arith in
      (actor - first, omega arith, ap (λ (x : ℕ). x % actors) ahead ∙ mod-eq_of_lt below))
]
