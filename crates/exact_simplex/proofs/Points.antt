-- Solutions of the start tableau as points of the programme.
use Rattle.std.proofs.Common.{◌≡◌, ◌≢◌, ℕ, suc, ◌+◌, ◌<◌, ◌≤◌, ℤ, pos, negsuc, neg_ℤ, nat_abs, ◌+ℤ◌, ◌-ℤ◌, ◌*ℤ◌, ◌≤ℤ◌, ◌<ℤ◌, length, [], arith, refl, sym, ◌∙◌, ap, inl, inr}
use Rattle.std.proofs.Math.IntN.{*ℤ-zero, *ℤ_comm}
use Rattle.std.proofs.lemmas.Int.{ints}
use Rattle.std.proofs.lemmas.Bool.{cases_eq, lt-ltb, le-ltb}
use Rattle.std.proofs.lemmas.List.Elements.{All-from_get_or}
use Rattle.linear_program.proofs.Integers.{positive_times, not_negative_times, times_product, difference_times}
use Rattle.linear_program.proofs.Sums.{same_sum, combined_sum}
use Rattle.linear_program.proofs.WeakDuality.{weak_duality}
use Rattle.linear_program.proofs.Starts.{start_sum}
use Rattle.linear_program.proofs.Vectors.{at_column, at_same, at_other, spread, spread_not_negative, spread_beside, spread_there, product_below, without, product_positive, without_positive, product_out, balanced_solves}
use Rattle.linear_program.specs.Sums.{sum_below}
use Rattle.linear_program.specs.Programmes.{LpView, cell_at, row_at, gain_at, row_value, gain_value}
use Rattle.linear_program.specs.Duality.{IsFeasible, IsDualFeasible, IsBounded}
use Rattle.linear_program.specs.Tableaux.{TableauView, objective_column, side_column, width, Solves, IsCanonical, IsDerived}
use Rattle.linear_program.specs.Starts.{value_cell, start_side, start_tableau}

pub size_of : (z : ℤ) → pos 0 ≤ℤ z → pos (nat_abs z) ≡ z
size_of (pos n) h = refl
size_of (negsuc n) h = absurd (omega (arith, ints))

-- a row of the programme at the values of a solution of the start
pub start_line : (p : LpView) (x : ℕ → ℤ) (point : ℕ → ℕ) → ((j : ℕ) → j < p.columns → pos (point j) ≡ x j) → Solves (start_tableau p) x →
    (i : ℕ) → i < length p.rows →
    row_value p.columns (row_at p i) point +ℤ x (p.columns + i) +ℤ (row_at p i).rhs *ℤ x (p.columns + length p.rows + 1) ≡ pos 0
start_line p x point same solves i within =
    let sum = start_sum p i x (omega arith) in
    let none = solves i (omega arith) in
    let values : row_value p.columns (row_at p i) point ≡ sum_below p.columns (λ j. value_cell p i j *ℤ x j) =
    same_sum p.columns (λ j. cell_at (row_at p i).cells j *ℤ pos (point j)) (λ j. value_cell p i j *ℤ x j)
    (λ j l. rw (lt-ltb i (length p.rows) within) (ap (λ z. cell_at (row_at p i).cells j *ℤ z) (same j l))) in
    let side : start_side p i ≡ (row_at p i).rhs = rw (lt-ltb i (length p.rows) within) refl in
    rw (values, ← side) (sym sum ∙ none)

-- the gain is the solution's number in the objective's column
pub start_gain : (p : LpView) (x : ℕ → ℤ) (point : ℕ → ℕ) → ((j : ℕ) → j < p.columns → pos (point j) ≡ x j) → Solves (start_tableau p) x →
    gain_value p point ≡ x (p.columns + length p.rows)
start_gain p x point same solves =
    let m = length p.rows in
    let gain = gain_at p in
    let sum = start_sum p m x (omega arith) in
    let none = solves m (omega arith) in
    let not_below = le-ltb m m (omega arith) in
    let values : sum_below p.columns (λ j. value_cell p m j *ℤ x j) ≡ sum_below p.columns (λ j. neg_ℤ (gain j) *ℤ pos (point j)) =
    same_sum p.columns (λ j. value_cell p m j *ℤ x j) (λ j. neg_ℤ (gain j) *ℤ pos (point j))
    (λ j l. rw not_below (ap (λ z. neg_ℤ (gain j) *ℤ z) (sym (same j l)))) in
    let negated = combined_sum p.columns (pos 1) (pos 0) (pos 1) (λ j. neg_ℤ (gain j)) gain gain (λ j. pos (point j)) (λ j _. omega (arith, ints)) in
    let side : start_side p m ≡ pos 0 = rw not_below refl in
    let whole = rw side at (sym sum ∙ none) in
    omega (arith, ints, values, negated, whole)

pub feasible_from_lines : (p : LpView) (point : ℕ → ℕ) (d : ℕ) →
    ((i : ℕ) → i < length p.rows → row_value p.columns (row_at p i) point ≤ℤ ((row_at p i).rhs *ℤ pos d)) → IsFeasible p point d
feasible_from_lines p point d h =
    All-from_get_or (λ row. row_value p.columns row point ≤ℤ (row.rhs *ℤ pos d)) p.rows (record { cells = []; rhs = pos 0 }) h

-- a row's cell in its own basic column
abbrev pub own_cell : TableauView → ℕ → ℤ
own_cell t i = t.cell i (t.basic i)

-- the product of these cells, and the product without one
abbrev pub denominator : TableauView → ℤ
denominator t = product_below (suc t.constraints) (own_cell t)

abbrev pub others : TableauView → ℕ → ℤ
others t i = product_below (suc t.constraints) (without (own_cell t) i)

pub denominator_positive : (t : TableauView) → IsCanonical t → pos 0 <ℤ denominator t
denominator_positive t canonical = product_positive (suc t.constraints) (own_cell t) (λ i l. canonical.own_positive i (omega arith))

pub others_positive : (t : TableauView) (i : ℕ) → IsCanonical t → pos 0 <ℤ others t i
others_positive t i canonical = without_positive (suc t.constraints) i (own_cell t) (λ k l. canonical.own_positive k (omega arith))

-- the basic columns differ
pub basics_differ : (t : TableauView) (i k : ℕ) → IsCanonical t → i ≤ t.constraints → k ≤ t.constraints → i ≢ k → t.basic k ≢ t.basic i
basics_differ t i k canonical inside k_inside apart same =
    let own : pos 0 <ℤ t.cell i (t.basic i) = canonical.own_positive i inside in
    let none : t.cell i (t.basic i) ≡ pos 0 = rw (← same) (canonical.alone k i k_inside inside apart) in
    absurd (omega (arith, ints, own, none))

-- along an entering column that no row limits: the rest of the row changes against it
abbrev pub ray_number : TableauView → ℕ → ℕ → ℤ
ray_number t c i = (pos 0 -ℤ t.cell i c) *ℤ others t i

abbrev ray : TableauView → ℕ → ℕ → ℤ
ray t c = spread (suc t.constraints) t.basic (ray_number t c) (at_column c (denominator t))

ray_solves : (t : TableauView) (c : ℕ) → IsCanonical t → c < width t → Solves t (ray t c)
ray_solves t c canonical within =
    balanced_solves t c (denominator t) (ray_number t c) canonical within
    (λ k inside.
    let out : own_cell t k *ℤ others t k ≡ denominator t = product_out (suc t.constraints) k (own_cell t) (omega arith) in
    let swapped : own_cell t k *ℤ ((pos 0 -ℤ t.cell k c) *ℤ others t k) ≡ (pos 0 -ℤ t.cell k c) *ℤ denominator t =
    sym (times_product (own_cell t k) (pos 0 -ℤ t.cell k c) (others t k)) ∙ ap (λ z. z *ℤ others t k) (*ℤ_comm (own_cell t k) (pos 0 -ℤ t.cell k c)) ∙ times_product (pos 0 -ℤ t.cell k c) (own_cell t k) (others t k) ∙ ap (λ z. (pos 0 -ℤ t.cell k c) *ℤ z) out in
    omega (arith, ints, swapped, difference_times (pos 0) (t.cell k c) (denominator t)))

pub no_ray : (p : LpView) (t : TableauView) (c : ℕ) → IsBounded p → IsCanonical t → IsDerived (start_tableau p) t →
    c < objective_column t → t.cell t.constraints c <ℤ pos 0 → ((i : ℕ) → i < t.constraints → t.cell i c ≤ℤ pos 0) → ⊥
no_ray p t c bounded canonical derived entering negative unlimited =
    let ys = bounded.prices in
    let scale = bounded.scale in
    let dual : IsDualFeasible p ys scale = bounded.bound in
    let n : t.values ≡ p.columns = derived.same_values in
    let m : t.constraints ≡ length p.rows = derived.same_constraints in
    let x = ray t c in
    let last : t.basic t.constraints ≡ objective_column t = canonical.last_basic in
    let solves : Solves (start_tableau p) x = (derived.solutions x).1 (ray_solves t c canonical (omega arith)) in
    let not_negative : (j : ℕ) → j < objective_column t → pos 0 ≤ℤ x j =
    λ j l. spread_not_negative (suc t.constraints) t.basic (ray_number t c) (at_column c (denominator t)) j
    (λ i h e. elim (cases_eq i t.constraints) [
      | inl same ↦ absurd (let b : t.basic i ≡ objective_column t = ap t.basic same ∙ last in omega arith)
      | inr other ↦
          let low = unlimited i (omega arith) in
          let up : pos 0 ≤ℤ (pos 0 -ℤ t.cell i c) = omega (arith, ints, low) in
          not_negative_times _ _ up (let h = others_positive t i canonical in omega (arith, ints, h))
    ])
    (elim (cases_eq j c) [
      | inl same ↦ rw (same, at_same c (denominator t)) (let h = denominator_positive t canonical in omega (arith, ints, h))
      | inr other ↦ rw (at_other c (denominator t) j other) (omega (arith, ints))
    ]) in
    let point = λ (j : ℕ). nat_abs (x j) in
    let same_values : (j : ℕ) → j < p.columns → pos (point j) ≡ x j = λ j l. size_of (x j) (not_negative j (omega arith)) in
    let basic_ne_side : (i : ℕ) → i < suc t.constraints → side_column t ≢ t.basic i =
    λ i l e. elim (cases_eq i t.constraints) [
      | inl same ↦ let b : t.basic i ≡ objective_column t = ap t.basic same ∙ last in absurd (omega arith)
      | inr other ↦ let b : t.basic i < objective_column t = canonical.basic_within i (omega arith) in absurd (omega arith)
    ] in
    let side_none : x (side_column t) ≡ pos 0 =
    spread_beside (suc t.constraints) t.basic (ray_number t c) (at_column c (denominator t)) (side_column t) basic_ne_side
    ∙ at_other c (denominator t) (side_column t) (λ e. absurd (omega arith)) in
    let side_start : x (p.columns + length p.rows + 1) ≡ pos 0 = rw (← n, ← m) side_none in
    let feasible : IsFeasible p point 0 =
    feasible_from_lines p point 0
    (λ i l.
    let line = start_line p x point same_values solves i l in
    let slack : pos 0 ≤ℤ x (p.columns + i) = not_negative (p.columns + i) (omega arith) in
    let line2 = rw (side_start, *ℤ-zero) at line in
    rw *ℤ-zero (omega (arith, ints, line2, slack))) in
    let objective : x (objective_column t) ≡ pos 0 +ℤ ray_number t c t.constraints =
    rw (← last)
    (spread_there (suc t.constraints) t.constraints t.basic (ray_number t c) (at_column c (denominator t)) (omega arith)
    (λ i l apart. basics_differ t i t.constraints canonical (omega arith) (omega arith) apart)
    ∙ ap (λ z. z +ℤ ray_number t c t.constraints) (at_other c (denominator t) (t.basic t.constraints) (λ e. absurd (omega arith)))) in
    let gain : gain_value p point ≡ x (objective_column t) =
    start_gain p x point same_values solves ∙ ap x (let e : p.columns + length p.rows ≡ objective_column t = omega arith in e) in
    let up : pos 0 <ℤ (pos 0 -ℤ t.cell t.constraints c) = omega (arith, ints, negative) in
    let gains : pos 0 <ℤ ray_number t c t.constraints = positive_times _ _ up (others_positive t t.constraints canonical) in
    let gain_positive : pos 0 <ℤ gain_value p point = omega (arith, ints, gain, objective, gains) in
    let scale_positive : pos 0 <ℤ scale = let some = dual.some_scale in omega (arith, ints, some) in
    let bound = weak_duality p point 0 ys scale feasible dual in
    let product = positive_times scale (gain_value p point) scale_positive gain_positive in
    absurd (omega (arith, ints, rw *ℤ-zero at bound, product))
