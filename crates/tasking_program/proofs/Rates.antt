-- What the counts of a schedule gain, and why prices bound every rate.
use Rattle.std.proofs.Common.{◌≡◌, ℕ, ◌*◌, ◌/◌, ◌≤◌, true, false, cond, List, [], ◌∷◌, length, slice_index_or, All, count_by, Option, Some, None, IsSome, ℤ, pos, ◌*ℤ◌, ◌≤ℤ◌, refl, ap, ◌∙◌, arith}
use Rattle.std.specs.Option.{is_some}
use Rattle.std.proofs.Math.IntN.{*ℤ_comm}
use Rattle.std.proofs.Math.Nat.{mul_assoc, mul_comm, mul-mul-mul_comm, mul-le-mul_left}
use Rattle.std.proofs.lemmas.Int.{ints}
use Rattle.std.proofs.lemmas.List.Sums.{sum_by-cons}
use Rattle.std.proofs.lemmas.List.Elements.{All-head, All-tail}
use Rattle.linear_program.specs.Programmes.{gain_value}
use Rattle.linear_program.specs.Duality.{priced_sides, IsDualFeasible}
use Rattle.linear_program.proofs.Integers.{times_keeps_order}
use Rattle.linear_program.proofs.WeakDuality.{weak_duality}
use Rattle.platform_file.specs.Ticks.{TimedView, IsTimed}
use Rattle.schedule_model.specs.declared.schedule.Op.{Op}
use Rattle.schedule_model.specs.declared.schedule.Op.TheVariants.{Send, Compute}
use Rattle.schedule_model.specs.declared.schedule.Series.TheVariants.{Tasking}
use Rattle.schedule_model.specs.declared.schedule.Schedule.{Schedule}
use Rattle.schedule_model.specs.Operations.{is_compute}
use Rattle.schedule_model.specs.Validity.{IsInRange, IsValid, completed}
use Rattle.schedule_model.specs.Throughput.{IsUpperRate}
use Rattle.schedule_model.proofs.Durations.{whole_quotient}
use Rattle.programme_rows.specs.Cells.{where_true}
use Rattle.programme_rows.proofs.Listings.{sum_over}
use Rattle.programme_rows.proofs.Weights.{where_nothing, gain_by_columns}
use Rattle.tasking_program.specs.declared.columns.Column.TheVariants.{Computes}
use Rattle.tasking_program.specs.Columns.{carries, columns_of}
use Rattle.tasking_program.specs.Programme.{gain_of, tasking_programme}
use Rattle.tasking_program.specs.Counts.{operations_in, counts_of}
use Rattle.tasking_program.proofs.Weights.{weight, counts_weigh}
use Rattle.tasking_program.proofs.Feasible.{there, feasible}

-- every computation gains a task
computations_gain : (t : TimedView) (ops : List Op) → All (IsInRange t Tasking) ops → sum_over (weight t gain_of) ops ≡ pos (count_by is_compute ops)
computations_gain t [] range = refl
computations_gain t (op ∷ ops) range =
    let rest = computations_gain t ops (All-tail (IsInRange t Tasking) op ops range) in
    let here = one op (All-head (IsInRange t Tasking) op ops range) in
    omega (arith, ints, rest, here, sum_by-cons (λ o. cond (is_compute o) 1 0) op ops)
  where
    found : (time : Option ℕ) → IsSome time → where_true (is_some time) (pos 1) ≡ pos 1
    found (Some ticks) some = refl
    found None some = let bad : false ≡ true = some in cc

    one : (op : Op) → IsInRange t Tasking op → weight t gain_of op ≡ pos (cond (is_compute op) 1 0)
    one (Send link kind start) range = where_nothing (carries t link)
    one (Compute node start) range = found (slice_index_or t.times node None) range

-- the counts gain what the schedule completes
pub gain_of_counts : (t : TimedView) (s : Schedule) → IsTimed t → IsValid t Tasking s →
    gain_value (tasking_programme t) (counts_of t s) ≡ pos (completed t Tasking s * (s.ticks_per_unit / t.unit))
gain_of_counts t s timed valid =
    gain_by_columns gain_of (λ c. operations_in s c * (s.ticks_per_unit / t.unit)) (Computes 0) (columns_of t) (tasking_programme t).rows
    ∙ counts_weigh t gain_of s (there t s timed valid)
    ∙ ap (λ z. pos (s.ticks_per_unit / t.unit) *ℤ z) (computations_gain t s.ops valid.well_formed.in_range)
    ∙ product (s.ticks_per_unit / t.unit) (completed t Tasking s)
  where
    product : (k n : ℕ) → pos k *ℤ pos n ≡ pos (n * k)
    product k n = omega (arith, ints)

pub bounds_rates : (t : TimedView) (prices : List ℤ) (scale best : ℕ) → IsTimed t → IsDualFeasible (tasking_programme t) prices (pos scale) →
    priced_sides (tasking_programme t).rows prices ≤ℤ pos best → IsUpperRate t Tasking (best * t.unit) scale
bounds_rates t prices scale best timed dual sides = record {
  some_time = some dual.some_scale;
  bounds = λ s valid.
      let weak = weak_duality (tasking_programme t) (counts_of t s) s.length prices (pos scale) (feasible t s timed valid) dual in
      let gains = rw (gain_of_counts t s timed valid) at weak in
      let priced = times_keeps_order (pos s.length) (priced_sides (tasking_programme t).rows prices) (pos best) (omega (arith, ints)) sides in
      in_units _ _ _ _ _ _ (below (priced_sides (tasking_programme t).rows prices) _ _ _ _ gains priced) (whole_quotient t.unit s.ticks_per_unit valid.well_formed.whole_unit);
}
  where
    some : pos 1 ≤ℤ pos scale → 1 ≤ scale
    some h = omega (arith, ints)

    below : (y : ℤ) (scale n length best : ℕ) → (pos scale *ℤ pos n) ≤ℤ (y *ℤ pos length) → (pos length *ℤ y) ≤ℤ (pos length *ℤ pos best) → scale * n ≤ length * best
    below y scale n length best h k = omega (arith, ints, h, k, *ℤ_comm y (pos length))

    in_units : (scale done quotient length best unit : ℕ) {u : ℕ} → scale * (done * quotient) ≤ length * best → unit * quotient ≡ u → done * scale * u ≤ best * unit * length
    in_units scale done quotient length best unit h e =
        rw (
          ← e,
          mul_comm done scale,
          mul-mul-mul_comm scale done unit quotient,
          mul_comm scale unit,
          mul_assoc unit scale (done * quotient),
          mul_comm best unit,
          mul_assoc unit best length,
          mul_comm best length,
        )
        (mul-le-mul_left unit h)
