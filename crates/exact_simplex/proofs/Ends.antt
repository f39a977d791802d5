-- Where the run has ended, the values are feasible, the prices dual-feasible, and the gains equal.
use Rattle.std.proofs.Common.{◌≡◌, ◌≢◌, ℕ, zero, suc, ◌+◌, ◌*◌, ◌/◌, ◌<◌, ◌≤◌, ℤ, pos, neg_ℤ, nat_abs, ◌+ℤ◌, ◌-ℤ◌, ◌*ℤ◌, ◌≤ℤ◌, ◌<ℤ◌, cond, true, false, nat_eq, Option, Some, None, Ok, List, [], ◌∷◌, length, length-append, slice_index_or, arith, refl, sym, ◌∙◌, ap, inl, inr}
use Rattle.std.proofs.Math.IntN.{*ℤ-zero, *ℤ_comm}
use Rattle.std.proofs.Math.Nat.{div-mul_cancel, le_of_mul-le-mul_left}
use Rattle.std.proofs.lemmas.Int.{ints}
use Rattle.std.proofs.lemmas.Bool.{cases_eq, eq-eqb, lt-ltb, le-ltb, eqb-true}
use Rattle.std.proofs.lemmas.List.{get_or_push, get_or_append_left}
use Rattle.std.proofs.lemmas.List.Elements.{All-from_get_or}
use Rattle.ratio_core.specs.Fraction.{gcd_of, whole}
use Rattle.ratio_core.proofs.GcdLemmas.{gcd_some, gcd_divides}
use Rattle.linear_program.proofs.Integers.{not_negative_times, times_product, times_difference}
use Rattle.linear_program.proofs.Sums.{same_sum, first_sum}
use Rattle.exact_simplex.proofs.Points.{size_of, start_line, start_gain, feasible_from_lines, own_cell, denominator, others, denominator_positive, others_positive, basics_differ}
use Rattle.linear_program.proofs.Starts.{start_value, start_last, side_not_negative, start_canonical, start_derived}
use Rattle.linear_program.proofs.Vectors.{at_column, at_same, at_other, spread, spread_not_negative, spread_beside, spread_there, product_out, balanced_solves}
use Rattle.linear_program.specs.Sums.{sum_below}
use Rattle.linear_program.specs.Programmes.{LpView, RowView, cell_at, row_at, gain_at, gain_value, IsLp}
use Rattle.linear_program.specs.Duality.{priced_column, priced_sides}
use Rattle.linear_program.specs.Tableaux.{TableauView, objective_column, side_column, Solves, IsCanonical, IsDerived}
use Rattle.linear_program.specs.Starts.{start_cell, start_tableau}
use Rattle.linear_program.specs.Pivots.{Pivoted, pivoted}
use Rattle.linear_program.specs.declared.certificate.Optimum.{Optimum}
use Rattle.exact_simplex.proofs.Choices.{ended_is, step_kept}
use Rattle.exact_simplex.specs.Bland.{entering_column, leaving_row, step_by_pivot, step_by_row, step_by_column, Run, spent_unless_ended, run_on, run_from, bland_run}
use Rattle.exact_simplex.specs.Answers.{answer_of}
use Rattle.exact_simplex.specs.Optima.{first_terms, row_of, value_in, value_of, scale_of, best_of, price_of, optimum_of, HasEnded, IsOptimal}

-- what the prices say of a column and of the right sides, as sums over the rows
priced_column_sum : (rows : List RowView) (ys : List ℤ) (j : ℕ) → length ys ≡ length rows →
    priced_column rows ys j ≡ sum_below (length rows) (λ k. slice_index_or ys k (pos 0) *ℤ cell_at (slice_index_or rows k (record { cells = []; rhs = pos 0 })).cells j)
priced_column_sum [] [] j h = refl
priced_column_sum [] (y ∷ ys) j h = refl
priced_column_sum (row ∷ rows) [] j h = absurd (omega arith)
priced_column_sum (row ∷ rows) (y ∷ ys) j h =
    ap (λ z. y *ℤ cell_at row.cells j +ℤ z) (priced_column_sum rows ys j (omega arith))
    ∙ sym (first_sum (length rows) (λ k. slice_index_or (y ∷ ys) k (pos 0) *ℤ cell_at (slice_index_or (row ∷ rows) k (record { cells = []; rhs = pos 0 })).cells j))

priced_sides_sum : (rows : List RowView) (ys : List ℤ) → length ys ≡ length rows →
    priced_sides rows ys ≡ sum_below (length rows) (λ k. slice_index_or ys k (pos 0) *ℤ (slice_index_or rows k (record { cells = []; rhs = pos 0 })).rhs)
priced_sides_sum [] [] h = refl
priced_sides_sum [] (y ∷ ys) h = refl
priced_sides_sum (row ∷ rows) [] h = absurd (omega arith)
priced_sides_sum (row ∷ rows) (y ∷ ys) h =
    ap (λ z. y *ℤ row.rhs +ℤ z) (priced_sides_sum rows ys (omega arith))
    ∙ sym (first_sum (length rows) (λ k. slice_index_or (y ∷ ys) k (pos 0) *ℤ (slice_index_or (row ∷ rows) k (record { cells = []; rhs = pos 0 })).rhs))

-- the last row of a derived tableau at a column of the values
price_row : (p : LpView) (t : TableauView) (j : ℕ) → IsDerived (start_tableau p) t → j < p.columns →
    t.cell t.constraints j ≡ sum_below (length p.rows) (λ k. price_of t k *ℤ cell_at (row_at p k).cells j) -ℤ scale_of t *ℤ gain_at p j
price_row p t j derived within =
    let n : t.values ≡ p.columns = derived.same_values in
    let m : t.constraints ≡ length p.rows = derived.same_constraints in
    let rows = length p.rows in
    let whole = derived.combined t.constraints j (omega arith) (omega arith) in
    let term = λ (k : ℕ). t.cell t.constraints (t.values + k) *ℤ start_cell p k j in
    let counted : sum_below (t.constraints + 1) term ≡ sum_below rows term +ℤ term rows = ap (λ k. sum_below k term) (let e : t.constraints + 1 ≡ suc rows = omega arith in e) in
    let left : sum_below rows term ≡ sum_below rows (λ k. price_of t k *ℤ cell_at (row_at p k).cells j) =
    same_sum rows term (λ k. price_of t k *ℤ cell_at (row_at p k).cells j)
    (λ k l. ap (λ z. price_of t k *ℤ z) (start_value p k j (omega arith) within ∙ rw (lt-ltb k rows l) refl)) in
    let scale : t.cell t.constraints (t.values + rows) ≡ scale_of t = ap (t.cell t.constraints) (let e : t.values + rows ≡ objective_column t = omega arith in e) in
    let gain : start_cell p rows j ≡ neg_ℤ (gain_at p j) = start_value p rows j (omega arith) within ∙ rw (le-ltb rows rows (omega arith)) refl in
    let right : term rows ≡ scale_of t *ℤ neg_ℤ (gain_at p j) = rw (scale, gain) refl in
    let negated = times_difference (scale_of t) (pos 0) (gain_at p j) in
    let minus : pos 0 -ℤ gain_at p j ≡ neg_ℤ (gain_at p j) = omega (arith, ints) in
    whole ∙ omega (arith, ints, counted, left, right, *ℤ-zero (scale_of t), rw minus at negated)

best_row : (p : LpView) (t : TableauView) → IsDerived (start_tableau p) t →
    best_of t ≡ sum_below (length p.rows) (λ k. price_of t k *ℤ (row_at p k).rhs)
best_row p t derived =
    let n : t.values ≡ p.columns = derived.same_values in
    let m : t.constraints ≡ length p.rows = derived.same_constraints in
    let rows = length p.rows in
    let side = side_column t in
    let whole = derived.combined t.constraints side (omega arith) (omega arith) in
    let term = λ (k : ℕ). t.cell t.constraints (t.values + k) *ℤ start_cell p k side in
    let counted : sum_below (t.constraints + 1) term ≡ sum_below rows term +ℤ term rows = ap (λ k. sum_below k term) (let e : t.constraints + 1 ≡ suc rows = omega arith in e) in
    let there : side ≡ p.columns + rows + 1 = omega arith in
    let left : sum_below rows term ≡ sum_below rows (λ k. price_of t k *ℤ (row_at p k).rhs) =
    same_sum rows term (λ k. price_of t k *ℤ (row_at p k).rhs)
    (λ k l. ap (λ z. price_of t k *ℤ z) (ap (start_cell p k) there ∙ start_last p k (omega arith) ∙ rw (lt-ltb k rows l) refl)) in
    let none : start_cell p rows side ≡ pos 0 = ap (start_cell p rows) there ∙ start_last p rows (omega arith) ∙ rw (le-ltb rows rows (omega arith)) refl in
    let right : term rows ≡ pos 0 = ap (λ z. t.cell t.constraints (t.values + rows) *ℤ z) none ∙ *ℤ-zero (t.cell t.constraints (t.values + rows)) in
    whole ∙ omega (arith, ints, counted, left, right)

-- the basic solution, over the product of the own cells
abbrev pub basic_number : TableauView → ℕ → ℤ
basic_number t i = t.cell i (side_column t) *ℤ others t i

abbrev pub basic_point : TableauView → ℕ → ℤ
basic_point t = spread (suc t.constraints) t.basic (basic_number t) (at_column (side_column t) (pos 0 -ℤ denominator t))

pub basic_solves : (t : TableauView) → IsCanonical t → Solves t (basic_point t)
basic_solves t canonical =
    balanced_solves t (side_column t) (pos 0 -ℤ denominator t) (basic_number t) canonical (omega arith)
    (λ k inside.
    let out : own_cell t k *ℤ others t k ≡ denominator t = product_out (suc t.constraints) k (own_cell t) (omega arith) in
    let side = t.cell k (side_column t) in
    let swapped : own_cell t k *ℤ (side *ℤ others t k) ≡ side *ℤ denominator t =
    sym (times_product (own_cell t k) side (others t k)) ∙ ap (λ z. z *ℤ others t k) (*ℤ_comm (own_cell t k) side) ∙ times_product side (own_cell t k) (others t k) ∙ ap (λ z. side *ℤ z) out in
    omega (arith, ints, swapped, times_difference side (pos 0) (denominator t), *ℤ-zero side))

basics_before_side : (t : TableauView) → IsCanonical t → (i : ℕ) → i < suc t.constraints → side_column t ≢ t.basic i
basics_before_side t canonical i l e =
    let last : t.basic t.constraints ≡ objective_column t = canonical.last_basic in
    elim (cases_eq i t.constraints) [
      | inl same ↦ let b : t.basic i ≡ objective_column t = ap t.basic same ∙ last in absurd (omega arith)
      | inr other ↦ let b : t.basic i < objective_column t = canonical.basic_within i (omega arith) in absurd (omega arith)
    ]

-- the point at a basic column
point_there : (t : TableauView) (i : ℕ) → IsCanonical t → i ≤ t.constraints → basic_point t (t.basic i) ≡ basic_number t i
point_there t i canonical inside =
    let z = pos 0 -ℤ denominator t in
    let apart : t.basic i ≢ side_column t = λ e. basics_before_side t canonical i (omega arith) (sym e) in
    spread_there (suc t.constraints) i t.basic (basic_number t) (at_column (side_column t) z) (omega arith)
    (λ k l other. basics_differ t k i canonical (omega arith) inside other)
    ∙ rw (at_other (side_column t) z (t.basic i) apart) (omega (arith, ints))

point_beside : (t : TableauView) (j : ℕ) → j < objective_column t → ((i : ℕ) → i < suc t.constraints → j ≢ t.basic i) → basic_point t j ≡ pos 0
point_beside t j within apart =
    spread_beside (suc t.constraints) t.basic (basic_number t) (at_column (side_column t) (pos 0 -ℤ denominator t)) j apart
    ∙ at_other (side_column t) (pos 0 -ℤ denominator t) j (λ e. absurd (omega arith))

point_not_negative : (t : TableauView) (j : ℕ) → IsCanonical t → j < objective_column t → pos 0 ≤ℤ basic_point t j
point_not_negative t j canonical within =
    let last : t.basic t.constraints ≡ objective_column t = canonical.last_basic in
    spread_not_negative (suc t.constraints) t.basic (basic_number t) (at_column (side_column t) (pos 0 -ℤ denominator t)) j
    (λ i h e. elim (cases_eq i t.constraints) [
      | inl same ↦ absurd (let b : t.basic i ≡ objective_column t = ap t.basic same ∙ last in omega arith)
      | inr other ↦ not_negative_times _ _ (canonical.sides i (omega arith)) (let h = others_positive t i canonical in omega (arith, ints, h))
    ])
    (rw (at_other (side_column t) (pos 0 -ℤ denominator t) j (λ e. absurd (omega arith))) (omega (arith, ints)))

-- the row of a column, and that there is none
pub row_there : (basic : ℕ → ℕ) (m j i : ℕ) → row_of basic m j ≡ Some i → (i < m) × (basic i ≡ j)
row_there basic zero j i h = cc
row_there basic (suc m) j i h =
    elim (nat_eq (basic m) j) as (λ b. nat_eq (basic m) j ≡ b → cond b (Some m) (row_of basic m j) ≡ Some i → (i < suc m) × (basic i ≡ j)) [
      | true ↦ λ e k. let same : m ≡ i = cc in (omega arith, rw (← same) (eqb-true (basic m) j e))
      | false ↦ λ e k. let before = row_there basic m j i k in (let l = before.0 in omega arith, before.1)
    ] refl h

no_row : (basic : ℕ → ℕ) (m j : ℕ) → row_of basic m j ≡ None → (i : ℕ) → i < m → j ≢ basic i
no_row basic zero j h i l = absurd (omega arith)
no_row basic (suc m) j h i l =
    elim (nat_eq (basic m) j) as (λ b. nat_eq (basic m) j ≡ b → cond b (Some m) (row_of basic m j) ≡ None → j ≢ basic i) [
      | true ↦ λ e k. cc
      | false ↦ λ e k. elim (cases_eq i m) [
        | inl same ↦ λ e2. let one : nat_eq (basic m) j ≡ true = eq-eqb (basic m) j (ap basic (sym same) ∙ sym e2) in cc
        | inr other ↦ no_row basic m j k i (omega arith)
      ]
    ] refl h

-- a whole number over the own cell, in lowest terms
scaled_value : (p a b d : ℕ) → 0 < b → p * b ≡ a * d → p * (b / gcd_of a b) ≡ (a / gcd_of a b) * d
scaled_value p a b d some h =
    let g = gcd_of a b in
    let some_g : 0 < g = gcd_some a b (omega arith) in
    let left : (a / g) * g ≡ a = div-mul_cancel g (gcd_divides a b).0 in
    let right : (b / g) * g ≡ b = div-mul_cancel g (gcd_divides a b).1 in
    let one : p * ((b / g) * g) ≡ p * b = ap (λ x. p * x) right in
    let other : (a / g) * g * d ≡ a * d = ap (λ x. x * d) left in
    let same : g * (p * (b / g)) ≡ g * ((a / g) * d) = omega arith in
    let low : p * (b / g) ≤ (a / g) * d = le_of_mul-le-mul_left (let l : g * (p * (b / g)) ≤ g * ((a / g) * d) = omega arith in l) some_g in
    let high : (a / g) * d ≤ p * (b / g) = le_of_mul-le-mul_left (let l : g * ((a / g) * d) ≤ g * (p * (b / g)) = omega arith in l) some_g in
    omega arith

value_link : (t : TableauView) (j : ℕ) → IsCanonical t → j < objective_column t → (o : Option ℕ) → row_of t.basic t.constraints j ≡ o →
    nat_abs (basic_point t j) * (value_in t j o).den ≡ (value_in t j o).num * nat_abs (denominator t)
value_link t j canonical within None h =
    let last : t.basic t.constraints ≡ objective_column t = canonical.last_basic in
    let none : basic_point t j ≡ pos 0 =
    point_beside t j within
    (λ i l. elim (cases_eq i t.constraints) [
      | inl same ↦ λ e. let b : t.basic i ≡ objective_column t = ap t.basic same ∙ last in absurd (omega arith)
      | inr other ↦ no_row t.basic t.constraints j h i (omega arith)
    ]) in
    let size : nat_abs (basic_point t j) ≡ 0 = ap nat_abs none in
    omega (arith, size)
value_link t j canonical within (Some i) h =
    let there = row_there t.basic t.constraints j i h in
    let less : i < t.constraints = there.0 in
    let same : t.basic i ≡ j = there.1 in
    let side = t.cell i (side_column t) in
    let own = t.cell i j in
    let own_positive : pos 0 <ℤ own = rw same at (canonical.own_positive i (omega arith)) in
    let own_size : pos (nat_abs own) ≡ own = size_of own (omega (arith, ints, own_positive)) in
    let some_own : 0 < nat_abs own = omega (arith, ints, own_size, own_positive) in
    let side_size : pos (nat_abs side) ≡ side = size_of side (canonical.sides i less) in
    let point_size : pos (nat_abs (basic_point t j)) ≡ basic_point t j = size_of (basic_point t j) (point_not_negative t j canonical within) in
    let positive = denominator_positive t canonical in
    let den_size : pos (nat_abs (denominator t)) ≡ denominator t = size_of (denominator t) (omega (arith, ints, positive)) in
    let number : basic_point t j ≡ side *ℤ others t i = ap (basic_point t) (sym same) ∙ point_there t i canonical (omega arith) in
    let out : own *ℤ others t i ≡ denominator t =
    ap (λ k. t.cell i k *ℤ others t i) (sym same) ∙ product_out (suc t.constraints) i (own_cell t) (omega arith) in
    let product : basic_point t j *ℤ own ≡ side *ℤ denominator t =
    ap (λ z. z *ℤ own) number ∙ times_product side (others t i) own ∙ ap (λ z. side *ℤ z) (*ℤ_comm (others t i) own ∙ out) in
    let whole : pos (nat_abs (basic_point t j) * nat_abs own) ≡ pos (nat_abs side * nat_abs (denominator t)) =
    ap (λ z. z *ℤ pos (nat_abs own)) point_size ∙ ap (λ z. basic_point t j *ℤ z) own_size ∙ product
    ∙ ap (λ z. z *ℤ denominator t) (sym side_size) ∙ ap (λ z. pos (nat_abs side) *ℤ z) (sym den_size) in
    scaled_value (nat_abs (basic_point t j)) (nat_abs side) (nat_abs own) (nat_abs (denominator t)) some_own (omega (arith, ints, whole))

sum_not_negative : (n : ℕ) (f : ℕ → ℤ) → ((i : ℕ) → i < n → pos 0 ≤ℤ f i) → pos 0 ≤ℤ sum_below n f
sum_not_negative zero f h = omega (arith, ints)
sum_not_negative (suc n) f h = omega (arith, ints, sum_not_negative n f (λ i l. h i (omega arith)), h n (omega arith))

-- the first terms of a sequence, as a list
pub terms_length : {A : Type 0} (f : ℕ → A) (n : ℕ) → length (first_terms f n) ≡ n
terms_length f zero = refl
terms_length f (suc n) = omega (arith, length-append (first_terms f n) (f n ∷ []), terms_length f n)

pub terms_at : {A : Type 0} (f : ℕ → A) (d : A) (n k : ℕ) → k < n → slice_index_or (first_terms f n) k d ≡ f k
terms_at f d zero k l = absurd (omega arith)
terms_at f d (suc n) k l =
    elim (cases_eq k n) [
      | inl same ↦ rw same (get_or_push (first_terms f n) (f n) d n (terms_length f n))
      | inr other ↦ get_or_append_left (first_terms f n) (f n ∷ []) d k (omega (arith, terms_length f n)) ∙ terms_at f d n k (omega arith)
    ]

-- the best gain is not below 0
pub best_not_negative : (p : LpView) (t : TableauView) → IsLp p → IsDerived (start_tableau p) t → HasEnded t → pos 0 ≤ℤ best_of t
best_not_negative p t lp derived ended =
    let m : t.constraints ≡ length p.rows = derived.same_constraints in
    rw (best_row p t derived) (sum_not_negative (length p.rows) (λ k. price_of t k *ℤ (row_at p k).rhs)
    (λ k l. not_negative_times _ _ (ended (t.values + k) (omega arith)) (side_not_negative p lp k l)))

-- the scale is above 0
pub scale_positive : (t : TableauView) → IsCanonical t → pos 0 <ℤ scale_of t
scale_positive t canonical = rw canonical.last_basic at (canonical.own_positive t.constraints (let l : t.constraints ≤ t.constraints = omega arith in l))

-- the answer that is read from a tableau at which the run has ended
pub ended_is_optimal : (p : LpView) (t : TableauView) → IsLp p → IsCanonical t → IsDerived (start_tableau p) t → HasEnded t → IsOptimal p (optimum_of t)
ended_is_optimal p t lp canonical derived ended =
    let n : t.values ≡ p.columns = derived.same_values in
    let m : t.constraints ≡ length p.rows = derived.same_constraints in
    let prices = first_terms (price_of t) t.constraints in
    let counted : length prices ≡ length p.rows = terms_length (price_of t) t.constraints ∙ m in
    let priced : (k : ℕ) → k < length p.rows → slice_index_or prices k (pos 0) ≡ price_of t k = λ k l. terms_at (price_of t) (pos 0) t.constraints k (omega arith) in
    let x = basic_point t in
    let point = λ (j : ℕ). nat_abs (x j) in
    let last : t.basic t.constraints ≡ objective_column t = canonical.last_basic in
    let positive = denominator_positive t canonical in
    let den_size : pos (nat_abs (denominator t)) ≡ denominator t = size_of (denominator t) (omega (arith, ints, positive)) in
    let some_scale = scale_positive t canonical in
    let solves : Solves (start_tableau p) x = (derived.solutions x).1 (basic_solves t canonical) in
    let same_values : (j : ℕ) → j < p.columns → pos (point j) ≡ x j = λ j l. size_of (x j) (point_not_negative t j canonical (omega arith)) in
    let x_side : x (side_column t) ≡ pos 0 -ℤ denominator t =
    spread_beside (suc t.constraints) t.basic (basic_number t) (at_column (side_column t) (pos 0 -ℤ denominator t)) (side_column t) (basics_before_side t canonical)
    ∙ at_same (side_column t) (pos 0 -ℤ denominator t) in
    let side_start : x (p.columns + length p.rows + 1) ≡ pos 0 -ℤ denominator t =
    ap x (let e : p.columns + length p.rows + 1 ≡ side_column t = omega arith in e) ∙ x_side in
    let best_sum = best_row p t derived in
    let best_priced : priced_sides p.rows prices ≡ best_of t =
    priced_sides_sum p.rows prices counted
    ∙ same_sum (length p.rows) (λ k. slice_index_or prices k (pos 0) *ℤ (row_at p k).rhs) (λ k. price_of t k *ℤ (row_at p k).rhs) (λ k l. ap (λ z. z *ℤ (row_at p k).rhs) (priced k l))
    ∙ sym best_sum in
    let gain : gain_value p point ≡ t.cell t.constraints (side_column t) *ℤ others t t.constraints =
    start_gain p x point same_values solves
    ∙ ap x (let e : p.columns + length p.rows ≡ objective_column t = omega arith in e)
    ∙ ap x (sym last) ∙ point_there t t.constraints canonical (omega arith) in
    let out : scale_of t *ℤ others t t.constraints ≡ denominator t =
    ap (λ k. t.cell t.constraints k *ℤ others t t.constraints) (sym last) ∙ product_out (suc t.constraints) t.constraints (own_cell t) (omega arith) in
    let gained : scale_of t *ℤ gain_value p point ≡ best_of t *ℤ denominator t =
    ap (λ z. scale_of t *ℤ z) gain ∙ sym (times_product (scale_of t) (best_of t) (others t t.constraints))
    ∙ ap (λ z. z *ℤ others t t.constraints) (*ℤ_comm (scale_of t) (best_of t)) ∙ times_product (best_of t) (scale_of t) (others t t.constraints) ∙ ap (λ z. best_of t *ℤ z) out in
    record {
      point = point;
      den = nat_abs (denominator t);
      some_den = omega (arith, ints, den_size, positive);
      one_each = terms_length (value_of t) t.values ∙ n;
      values = λ j l. rw (terms_at (value_of t) (whole 0) t.values j (omega arith)) (value_link t j canonical (omega arith) (row_of t.basic t.constraints j) refl);
      feasible =
          feasible_from_lines p point (nat_abs (denominator t))
          (λ i l.
          let line = start_line p x point same_values solves i l in
          let slack : pos 0 ≤ℤ x (p.columns + i) = point_not_negative t (p.columns + i) canonical (omega arith) in
          let rhs = (row_at p i).rhs in
          let line2 = rw side_start at line in
          rw den_size (omega (arith, ints, line2, slack, times_difference rhs (pos 0) (denominator t), *ℤ-zero rhs)));
      dual_feasible = record {
        some_scale = omega (arith, ints, some_scale);
        one_each = counted;
        not_negative = All-from_get_or (λ price. pos 0 ≤ℤ price) prices (pos 0) (λ k l. let within : k < t.constraints = omega (arith, terms_length (price_of t) t.constraints) in rw (terms_at (price_of t) (pos 0) t.constraints k within) (ended (t.values + k) (omega arith)));
        covers = λ j l.
            let row = price_row p t j derived l in
            let covered : pos 0 ≤ℤ t.cell t.constraints j = ended j (omega arith) in
            let sum = priced_column_sum p.rows prices j counted ∙ same_sum (length p.rows) (λ k. slice_index_or prices k (pos 0) *ℤ cell_at (row_at p k).cells j) (λ k. price_of t k *ℤ cell_at (row_at p k).cells j) (λ k h. ap (λ z. z *ℤ cell_at (row_at p k).cells j) (priced k h)) in
            omega (arith, ints, row, covered, sum);
      };
      priced = best_priced;
      gains = gained ∙ ap (λ z. best_of t *ℤ z) (sym den_size);
    }

-- the answer of a run that has ended, from any tableau that a run passes
ended_from : (p : LpView) (left made : ℕ) (t u : TableauView) → IsLp p → IsCanonical t → IsDerived (start_tableau p) t → run_from left made t ≡ Run.ended u → IsOptimal p (optimum_of u)
unfolding run_from
ended_from p zero made t u lp canonical derived h =
    elim (entering_column t) as (λ o. entering_column t ≡ o → spent_unless_ended t o ≡ Run.ended u → IsOptimal p (optimum_of u)) [
      | Some column ↦ λ e h. cc
      | None ↦ λ e h. let same : t ≡ u = cc in rw (← same) (ended_is_optimal p t lp canonical derived (ended_is t e))
    ] refl h
ended_from p (suc left) made t u lp canonical derived h =
    elim (entering_column t) as (λ o. entering_column t ≡ o → run_on t made (λ v. run_from left (made + 1) v) (step_by_column t o) ≡ Run.ended u → IsOptimal p (optimum_of u)) [
      | None ↦ λ e h. let same : t ≡ u = cc in rw (← same) (ended_is_optimal p t lp canonical derived (ended_is t e))
      | Some column ↦ λ e h.
          elim (leaving_row t column) as (λ o. leaving_row t column ≡ o → run_on t made (λ v. run_from left (made + 1) v) (step_by_row t column o) ≡ Run.ended u → IsOptimal p (optimum_of u)) [
            | None ↦ λ k h. cc
            | Some row ↦ λ k h.
                elim (pivoted t row column) as (λ q. pivoted t row column ≡ q → run_on t made (λ v. run_from left (made + 1) v) (step_by_pivot q) ≡ Run.ended u → IsOptimal p (optimum_of u)) [
                  | Pivoted.tableau v ↦ λ f h.
                      let kept = step_kept p t v column row canonical derived e k f in
                      ended_from p left (made + 1) v u lp kept.0 kept.1 h
                  | Pivoted.overflow i j ↦ λ f h. cc
                ] refl h
          ] refl h
    ] refl h

-- the answer of a run that has ended, from the start
pub ended_run_is_optimal : (p : LpView) (limit : ℕ) (optimum : Optimum) → IsLp p → answer_of limit (bland_run limit (start_tableau p)) ≡ Some (Ok optimum) → IsOptimal p optimum
ended_run_is_optimal p limit optimum lp h =
    elim (bland_run limit (start_tableau p)) as (λ r. bland_run limit (start_tableau p) ≡ r → answer_of limit r ≡ Some (Ok optimum) → IsOptimal p optimum) [
      | Run.ended u ↦ λ e h. let same : optimum_of u ≡ optimum = cc in rw (← same) (ended_from p limit 0 (start_tableau p) u lp (start_canonical p lp) (start_derived p) e)
      | Run.spent u ↦ λ e h. cc
      | Run.unlimited u ↦ λ e h. cc
      | Run.overflow pivots row column u ↦ λ e h. cc
    ] refl h
