-- The rate of the table of a point is what the point gains.
use Rattle.std.proofs.Common.{◌≡◌, ℕ, ◌*◌, ◌≤◌, ℤ, pos, negsuc, ◌*ℤ◌, ◌≤ℤ◌, refl, sym, ap, ◌∙◌, arith}
use Rattle.std.proofs.Math.Nat.{mul_assoc, mul_comm, mul-le-mul_right, le_of_mul-le-mul_right}
use Rattle.std.proofs.lemmas.Int.{ints}
use Rattle.platform_file.specs.Ticks.{TimedView}
use Rattle.schedule_model.specs.declared.schedule.Series.{Series}
use Rattle.schedule_model.specs.Validity.{completed}
use Rattle.schedule_model.specs.Throughput.{IsUpperRate}
use Rattle.linear_program.proofs.Integers.{cancel_at_most, times_product}
use Rattle.planner.proofs.Made.{same_factor}

product : (a b : ℕ) → pos a *ℤ pos b ≡ pos (a * b)
product a b = omega (arith, ints)

-- what is gained in so many ticks is the rate's part of the period
in_period : (gain tasks den period counts ticks times g : ℕ) → 1 ≤ g → den * counts ≡ ticks * gain → tasks * g ≡ counts * times → period * g ≡ ticks * times → tasks * den ≡ gain * period
in_period gain tasks den period counts ticks times g some gained all lasts =
    same_factor (tasks * den) (gain * period) g some
    (mul_assoc tasks den g ∙ ap (λ n. tasks * n) (mul_comm den g) ∙ sym (mul_assoc tasks g den) ∙ ap (λ n. n * den) all ∙ mul_comm (counts * times) den ∙ sym (mul_assoc den counts times) ∙ ap (λ n. n * times) gained
    ∙ ap (λ n. n * times) (mul_comm ticks gain) ∙ mul_assoc gain ticks times ∙ ap (λ n. gain * n) (sym lasts) ∙ sym (mul_assoc gain period g))

pub rated : (gain : ℤ) (tasks den period counts ticks times g : ℕ) → 1 ≤ g → 1 ≤ ticks → pos den *ℤ pos counts ≡ pos ticks *ℤ gain → tasks * g ≡ counts * times → period * g ≡ ticks * times →
    pos tasks *ℤ pos den ≡ gain *ℤ pos period
rated (pos gain) tasks den period counts ticks times g some some_ticks gained all lasts =
    product tasks den ∙ ap pos (in_period gain tasks den period counts ticks times g some (same _ _ (sym (product den counts) ∙ gained ∙ product ticks gain)) all lasts) ∙ sym (product gain period)
  where
    same : (a b : ℕ) → pos a ≡ pos b → a ≡ b
    same a b e = omega (arith, ints, e)
rated (negsuc k) tasks den period counts ticks times g some some_ticks gained all lasts =
    let not_below : pos 0 ≤ℤ negsuc k = cancel_at_most (pos ticks) (pos 0) (negsuc k) (omega (arith, ints, some_ticks)) (least (pos ticks *ℤ negsuc k) (sym (product den counts) ∙ gained)) in
    absurd (omega (arith, ints, not_below))
  where
    nothing : (n : ℕ) → n * 0 ≡ 0
    nothing n = omega arith

    least : (z : ℤ) → pos (den * counts) ≡ z → (pos ticks *ℤ pos 0) ≤ℤ z
    least z e = let zero : pos ticks *ℤ pos 0 ≡ pos 0 = product ticks 0 ∙ ap pos (nothing ticks) in rw (zero, sym e) (omega (arith, ints))

-- where the rate is the gain of a point, and the gain is the best of the prices, so is the rate
pub best_rate : (gain : ℤ) (tasks den period best scale : ℕ) → 1 ≤ den → pos tasks *ℤ pos den ≡ gain *ℤ pos period → pos scale *ℤ gain ≡ pos best *ℤ pos den → tasks * scale ≡ best * period
best_rate gain tasks den period best scale some rate gains =
    same_factor (tasks * scale) (best * period) den some
    (mul_assoc tasks scale den ∙ ap (λ n. tasks * n) (mul_comm scale den) ∙ sym (mul_assoc tasks den scale) ∙ mul_comm (tasks * den) scale ∙ same _ _ whole
    ∙ mul_assoc best den period ∙ ap (λ n. best * n) (mul_comm den period) ∙ sym (mul_assoc best period den))
  where
    same : (a b : ℕ) → pos a ≡ pos b → a ≡ b
    same a b e = omega (arith, ints, e)

    whole : pos (scale * (tasks * den)) ≡ pos (best * den * period)
    whole =
        sym (product scale (tasks * den)) ∙ ap (λ z. pos scale *ℤ z) (sym (product tasks den) ∙ rate) ∙ sym (times_product (pos scale) gain (pos period))
        ∙ ap (λ z. z *ℤ pos period) (gains ∙ product best den) ∙ product (best * den) period

-- p/q and n/d of a time unit are one rate
pub upper_of_equal : (t : TimedView) (series : Series) (best scale tasks period unit : ℕ) → 1 ≤ period → tasks * scale ≡ best * period → IsUpperRate t series (best * unit) scale → IsUpperRate t series (tasks * unit) period
upper_of_equal t series best scale tasks period unit some equal upper = record {
  some_time = some;
  bounds = λ s valid. bounded (completed t series s) s.ticks_per_unit s.length upper.some_time (upper.bounds s valid);
}
  where
    bounded : (count ticks length : ℕ) → 1 ≤ scale → count * scale * ticks ≤ best * unit * length → count * period * ticks ≤ tasks * unit * length
    bounded count ticks length some_scale h =
        let over : count * scale * ticks * period ≤ best * unit * length * period = mul-le-mul_right period h in
        let same : best * period * (unit * length) ≡ tasks * scale * (unit * length) = rw equal refl in
        le_of_mul-le-mul_right {k = scale} (omega (arith, over, same)) some_scale
