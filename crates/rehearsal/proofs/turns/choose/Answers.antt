use Rattle.std.proofs.Common.{◌≡◌, ℕ, ◌+◌, ◌<◌, ◌%◌, length, refl, sym, ap, ◌∙◌, arith, inl, inr}
use Rattle.std.proofs.lemmas.Bool.{cases_lt}
use Rattle.step_core.specs.Histories.{IsEnabled}
use Rattle.step_core.specs.States.{IsStateAfter}
use Rattle.rehearsal.proofs.Cycles.{tried-first, tried-next, tried-all}
use Rattle.rehearsal.proofs.turns.choose.Goals as goal

pub returns-in-Ok-clause-chosen : goal.returns-in-Ok-clause-chosen
returns-in-Ok-clause-chosen c h old =
    let made = c.in-Ok.ensures.made h (rw c.loop-tried.invariant.state old) in
    record {
      others = c.loop-tried._tried;
      enabled = rw (← c.loop-tried.invariant.actor) (made.0, made.1.legal);
      before = λ other earlier less. c.loop-tried.invariant.before h other earlier (rw c.loop-tried.invariant.state old) less;
    }

pub returns-in-Ok-clause-made : goal.returns-in-Ok-clause-made
returns-in-Ok-clause-made c h old = (c.in-Ok.ensures.made h (rw c.loop-tried.invariant.state old)).1

pub loop-tried-preserved : goal.loop-tried-preserved
loop-tried-preserved c = record {
  state = c.in_default.ensures.unchanged ∙ c.loop-tried.invariant.state;
  actor =
      c.following-actor.ensures
      ∙ ap (λ (n : ℕ). (c.loop-tried.actor + 1) % n) c.actors-actors.ensures
      ∙ ap (λ (a : ℕ). (a + 1) % length c.args.wiring.now.programs) c.loop-tried.invariant.actor
      ∙ tried-next (length c.args.wiring.now.programs) c.args.first c.loop-tried._tried;
  before = λ h other e old less enabled.
      let old' : IsStateAfter c.args.wiring.now c.loop-tried.state h = rw (← c.in_default.ensures.unchanged) old in
      elim (cases_lt other c.loop-tried._tried) [
        | inl earlier ↦ c.loop-tried.invariant.before h other e old' earlier enabled
        | inr last ↦
            let same : other ≡ c.loop-tried._tried = omega arith in
            let here : IsEnabled c.args.wiring.now h c.loop-tried.actor e =
            rw (c.loop-tried.invariant.actor, ← same) enabled in
            c.in_default.not-Ok e ((c.step.ensures.exact h e old').1 here)
      ];
}

pub returns-clause-stuck : goal.returns-clause-stuck
returns-clause-stuck c h old none (actor, e, below, enabled) =
    let place = tried-all (length c.args.wiring.now.programs) c.args.first actor c.requires.first below in
    c.loop-tried.invariant.before h place.0 e (rw c.loop-tried.invariant.state old)
    (omega (arith, place.1, c.actors-actors.ensures, c.loop-tried-test.false)) (rw place.2 enabled)

none_below : (n : ℕ) → n < 0 → ⊥
none_below n less = omega arith

pub loop-tried-init : goal.loop-tried-init
loop-tried-init c = record {
  state = refl;
  actor = sym (tried-first (length c.args.wiring.now.programs) c.args.first c.requires.first);
  before = λ h other e old less. absurd (none_below other less);
}
