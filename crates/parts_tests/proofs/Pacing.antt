-- The periods of the wiring that hands a task over.
use Rattle.std.proofs.Common.{◌≡◌, ℕ, zero, suc, ◌<◌, ◌≤◌, [], length, refl, arith, inl, Some, slice_get, slice_index_or, IfSome}
use Rattle.step_core.specs.declared.wiring.Event.TheVariants.{Take, Open}
use Rattle.step_core.specs.Wirings.{takes, opens, is_lane, program_of}
use Rattle.step_core.specs.Paced.{IsPaced, IsClosedBefore, HasRoomBefore, period_of, before}
use Rattle.parts_tests.specs.HandOvers.{hand_over, hand_over_periods}

rising : (actor i j : ℕ) → i ≤ j → j < length (program_of hand_over actor) → period_of hand_over_periods actor i ≤ period_of hand_over_periods actor j
rising zero zero j le less = omega arith
rising zero (suc zero) j le less = omega arith
rising zero (suc (suc i)) j le less = omega arith
rising (suc zero) zero zero le less = omega arith
rising (suc zero) zero (suc zero) le less = omega arith
rising (suc zero) zero (suc (suc j)) le less = omega arith
rising (suc zero) (suc i) zero le less = omega arith
rising (suc zero) (suc zero) (suc zero) le less = omega arith
rising (suc zero) (suc zero) (suc (suc j)) le less = omega arith
rising (suc zero) (suc (suc i)) (suc j) le less = omega arith
rising (suc (suc actor)) i j le less = omega arith

come : (actor i lane task : ℕ) → slice_get (program_of hand_over actor) i ≡ Some (Take actor lane task)
    → IsClosedBefore hand_over hand_over_periods lane (takes (is_lane lane) (before hand_over actor i)) (period_of hand_over_periods actor i)
come zero zero lane task is = absurd (grind (arith, is))
come zero (suc zero) lane task is = absurd (grind (arith, is))
come zero (suc (suc i)) lane task is = absurd (grind (arith, is))
come (suc zero) zero zero task is = record {
  actor = 0;
  place = 1;
  task = 0;
  stands = refl;
  numbered = refl;
  earlier = omega arith;
}
come (suc zero) zero (suc lane) task is = absurd (grind (arith, is))
come (suc zero) (suc zero) lane task is = absurd (grind (arith, is))
come (suc zero) (suc (suc i)) lane task is = absurd (grind (arith, is))
come (suc (suc actor)) i lane task is = absurd (grind (arith, is))

pub paced : IsPaced hand_over hand_over_periods
paced = record {
  one_each = refl;
  as_long = long;
  rising = rising;
  come = come;
  room = room;
}
  where
    long : (actor : ℕ) → length (slice_index_or hand_over_periods actor []) ≡ length (program_of hand_over actor)
    long zero = refl
    long (suc zero) = refl
    long (suc (suc actor)) = refl

    room : (actor i k task : ℕ) → slice_get (program_of hand_over actor) i ≡ Some (Open actor k task)
        → IfSome (slice_get hand_over.lanes k) (λ lane. HasRoomBefore hand_over hand_over_periods k lane.capacity (opens (is_lane k) (before hand_over actor i)) (period_of hand_over_periods actor i))
    room zero zero zero task is = inl (omega arith)
    room zero zero (suc k) task is = absurd (grind (arith, is))
    room zero (suc zero) k task is = absurd (grind (arith, is))
    room zero (suc (suc i)) k task is = absurd (grind (arith, is))
    room (suc zero) zero k task is = absurd (grind (arith, is))
    room (suc zero) (suc zero) k task is = absurd (grind (arith, is))
    room (suc zero) (suc (suc i)) k task is = absurd (grind (arith, is))
    room (suc (suc actor)) i k task is = absurd (grind (arith, is))
