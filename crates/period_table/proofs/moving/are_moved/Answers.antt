use Rattle.std.proofs.Common.{◌≡◌, ℕ, ◌+◌, ◌-◌, ◌^◌, ◌<◌, ◌≤◌, min, arith, refl, inl, inr, All, List, length, get_or, subst}
use Rattle.std.proofs.lemmas.Bool.{cases_lt}
use Rattle.flow_routes.specs.declared.flow.Route.{Route}
use Rattle.period_table.specs.declared.table.Slot.{Slot}
use Rattle.period_table.specs.Lanes.{LaneAt, lanes_of, lane_at}
use Rattle.period_table.specs.Tables.{moved_over}
use Rattle.std.proofs.lemmas.List.Elements.{All-get_or}
use Rattle.period_table.proofs.FittingTables.{all_carry}
use Rattle.period_table.proofs.moving.are_moved.Goals as goal

abbrev none : LaneAt
none = record { link = 0; hop = 0; kind = 0; count = 0 }

-- a count that is told up to a bound is the one wanted, where that is below the bound
told : (found moved count : ℕ) → min found (2 ^ 100 + 1) ≡ min moved (2 ^ 100 + 1) → count ≤ 2 ^ 100 → (moved ≡ count → found ≡ count) × (found ≡ count → moved ≡ count)
told found moved count e l = (λ h. omega (arith, e, l, h), λ h. omega (arith, e, l, h))

pub returns-then-not-is_window_moved-clause-no : goal.returns-then-not-is_window_moved-clause-no
returns-then-not-is_window_moved-clause-no c = λ all. c.if-not-is_window_moved.ensures.no (λ k l inside.
    (told _ _ _ (c.moved_from.ensures k l) (All-get_or (λ (lane : LaneAt). lane.count ≤ 2 ^ 100) (lanes_of c.args.routes.now) (c.loop-first.first + k) none inside (all_carry (λ n. n ≤ 2 ^ 100) c.args.routes.now c.requires.bounded))).0 (all (c.loop-first.first + k) inside))

-- what is found of a window, at a lane in it
in_window : (slots : List Slot) (routes : List Route) (found : List ℕ) (first k lane : ℕ) → first + k ≡ lane → k < 512 → lane < length (lanes_of routes) → All (λ route. route.count ≤ 2 ^ 100) routes →
    ((k : ℕ) → k < 512 → min (get_or found k 0) (2 ^ 100 + 1) ≡ min (moved_over (first + k) slots) (2 ^ 100 + 1)) →
    ((k : ℕ) → k < 512 → first + k < length (lanes_of routes) → get_or found k 0 ≡ (lane_at (lanes_of routes) (first + k)).count) →
    moved_over lane slots ≡ (lane_at (lanes_of routes) lane).count
in_window slots routes found first k lane e l inside bounded moved carried =
    subst (λ n. n < length (lanes_of routes) → moved_over n slots ≡ (lane_at (lanes_of routes) n).count) e (λ here.
    (told _ _ _ (moved k l) (All-get_or (λ (lane : LaneAt). lane.count ≤ 2 ^ 100) (lanes_of routes) (first + k) none here (all_carry (λ n. n ≤ 2 ^ 100) routes bounded))).1 (carried k l here)) inside

pub loop-first-preserved : goal.loop-first-preserved
loop-first-preserved c = λ lane l inside.
    elim (cases_lt lane c.loop-first.first) [
      | inl before ↦ c.loop-first.invariant lane before inside
      | inr from ↦
          in_window c.args.slots.now c.args.routes.now c.moved_from.result c.loop-first.first (lane - c.loop-first.first) lane (omega (arith, from)) (omega (arith, from, l, c.saturating_add-first.ensures)) inside
          c.requires.bounded c.moved_from.ensures (c.if-not-is_window_moved.ensures.yes refl)
    ]
