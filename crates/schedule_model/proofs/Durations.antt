-- Every operation of a well-formed schedule lasts at least one tick.
use Rattle.std.proofs.Common.{◌≡◌, ℕ, zero, suc, ◌*◌, ◌/◌, ◌%◌, ◌<◌, ◌≤◌, length, All, Option, Some, None, IsSome, IfSome, unwrap_or, get_or, false, true, ◌∙◌, ap, arith, ◌⊎◌, inl, inr}
use Rattle.std.proofs.lemmas.List.{length-map}
use Rattle.std.proofs.Math.Nat.{one-le-mul, div-add-mod}
use Rattle.std.proofs.Math.ListN.{get_or-eq_default}
use Rattle.platform_file.specs.Platform.{LinkView}
use Rattle.platform_file.specs.Ticks.{TimedView, ticks_of, IsTimed}
use Rattle.schedule_model.specs.declared.schedule.Op.{Op}
use Rattle.schedule_model.specs.declared.schedule.Op.TheVariants.{Send, Compute}
use Rattle.schedule_model.specs.declared.schedule.Series.{Series}
use Rattle.schedule_model.specs.declared.schedule.Series.TheVariants.{Tasking, Scatter}
use Rattle.schedule_model.specs.declared.schedule.Schedule.{Schedule}
use Rattle.schedule_model.specs.Operations.{cost_of, time_of, duration_of}
use Rattle.schedule_model.specs.Validity.{IsInRange, IsWellFormed}

-- a multiple is the divisor times the quotient
pub whole_quotient : (unit u : ℕ) → u % unit ≡ 0 → unit * (u / unit) ≡ u
whole_quotient unit u h = omega (arith, div-add-mod u unit)

pub some_quotient : (unit u : ℕ) → 0 < u → u % unit ≡ 0 → 1 ≤ u / unit
some_quotient unit u some whole = of_product (u / unit) unit u (whole_quotient unit u whole) some
  where
    of_product : (q unit u : ℕ) → unit * q ≡ u → 0 < u → 1 ≤ q
    of_product zero unit u e some = absurd (omega arith)
    of_product (suc q) unit u e some = omega arith

-- a link that exists costs something
some_cost : (t : TimedView) → IsTimed t → (link : ℕ) → link < length t.platform.links → 1 ≤ cost_of t link
some_cost t timed link h =
    let as_many : length t.costs ≡ length t.platform.links = ap length timed.costs ∙ length-map t.platform.links (λ (l : LinkView). ticks_of t.unit l.cost) in
    timed.some_cost link 0 (rw as_many h)

some_ticks : (time : Option ℕ) → IsSome time → IfSome time (λ ticks. 1 ≤ ticks) → 1 ≤ unwrap_or time 0
some_ticks None there h = let bad : false ≡ true = there in cc
some_ticks (Some ticks) there h = h

-- a node that computes takes some time
some_time : (t : TimedView) → IsTimed t → (node : ℕ) → IsSome (get_or t.times node None) → 1 ≤ time_of t node
some_time t timed node there =
    elim (inside_or_past node (length t.times)) [
      | inl inside ↦ some_ticks (get_or t.times node None) there (timed.some_time node None inside)
      | inr past ↦ let bad : false ≡ true = rw (get_or-eq_default t.times None past) at there in cc
    ]
  where
    inside_or_past : (node n : ℕ) → (node < n) ⊎ (n ≤ node)
    inside_or_past node n = grind arith

pub lasts : (t : TimedView) → IsTimed t → (series : Series) (u : ℕ) → 0 < u → u % t.unit ≡ 0 → (op : Op) → IsInRange t series op → 1 ≤ duration_of t u op
lasts t timed Tasking u some whole (Send link kind start) range = one-le-mul (some_cost t timed link range.0) (some_quotient t.unit u some whole)
lasts t timed Tasking u some whole (Compute node start) range = one-le-mul (some_time t timed node range) (some_quotient t.unit u some whole)
lasts t timed Scatter u some whole (Send link kind start) range = one-le-mul (some_cost t timed link range.0) (some_quotient t.unit u some whole)
lasts t timed Scatter u some whole (Compute node start) range = absurd range

pub each_lasts : (t : TimedView) → IsTimed t → (series : Series) (s : Schedule) → IsWellFormed t series s → All (λ op. 1 ≤ duration_of t s.ticks_per_unit op) s.ops
each_lasts t timed series s fine = λ k d h. lasts t timed series s.ticks_per_unit fine.some_unit fine.whole_unit _ (fine.in_range k d h)
