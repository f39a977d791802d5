-- The start tableau keeps what every tableau of a run keeps, and its rows say the programme.
use Rattle.std.proofs.Common.{◌≡◌, ◌≢◌, ℕ, suc, ◌+◌, ◌<◌, ◌≤◌, ℤ, pos, ◌+ℤ◌, ◌*ℤ◌, ◌≤ℤ◌, length, [], inl, inr, arith, refl, sym, ◌∙◌, ap}
use Rattle.std.proofs.Math.IntN.{*ℤ-zero, *ℤ_comm}
use Rattle.std.proofs.lemmas.Int.{ints}
use Rattle.std.proofs.lemmas.List.Elements.{All-get_or}
use Rattle.std.proofs.lemmas.Bool.{cases_lt, eq-eqb, ne_eqb, lt-ltb, le-ltb}
use Rattle.linear_program.proofs.Sums.{same_sum, single_sum, split_sum}
use Rattle.linear_program.specs.Sums.{sum_below}
use Rattle.linear_program.specs.Programmes.{LpView, IsRow, IsLp, row_at}
use Rattle.linear_program.specs.Tableaux.{row_sum, IsCanonical, IsDerived}
use Rattle.linear_program.specs.Starts.{value_cell, start_side, start_cell, start_tableau}

one_times : (a : ℤ) → pos 1 *ℤ a ≡ a
one_times a = omega (arith, ints)

zero_times : (a : ℤ) → pos 0 *ℤ a ≡ pos 0
zero_times a = *ℤ_comm (pos 0) a ∙ *ℤ-zero a

-- the cells of the start, column by column
pub start_value : (p : LpView) (i j : ℕ) → i ≤ length p.rows → j < p.columns → start_cell p i j ≡ value_cell p i j
start_value p i j inside within = rw (le-ltb (length p.rows) i inside, lt-ltb j p.columns within) refl

pub start_own : (p : LpView) (i : ℕ) → i ≤ length p.rows → start_cell p i (p.columns + i) ≡ pos 1
start_own p i inside =
    rw (le-ltb (length p.rows) i inside, le-ltb (p.columns + i) p.columns (omega arith), eq-eqb (p.columns + i) (p.columns + i) refl) refl

pub start_beside : (p : LpView) (i k : ℕ) → i ≤ length p.rows → k ≤ length p.rows → k ≢ i → start_cell p i (p.columns + k) ≡ pos 0
start_beside p i k inside k_inside apart =
    rw (
      le-ltb (length p.rows) i inside,
      le-ltb (p.columns + k) p.columns (omega arith),
      ne_eqb (p.columns + k) (p.columns + i) (λ e. apart (omega arith)),
      ne_eqb (p.columns + k) (p.columns + length p.rows + 1) (λ e. absurd (omega arith)),
    ) refl

pub start_last : (p : LpView) (i : ℕ) → i ≤ length p.rows → start_cell p i (p.columns + length p.rows + 1) ≡ start_side p i
start_last p i inside =
    rw (
      le-ltb (length p.rows) i inside,
      le-ltb (p.columns + length p.rows + 1) p.columns (omega arith),
      ne_eqb (p.columns + length p.rows + 1) (p.columns + i) (λ e. absurd (omega arith)),
      eq-eqb (p.columns + length p.rows + 1) (p.columns + length p.rows + 1) refl,
    ) refl

-- beyond the last column the start is 0
pub start_beyond : (p : LpView) (i j : ℕ) → p.columns + length p.rows + 2 ≤ j → start_cell p i j ≡ pos 0
start_beyond p i j past =
    elim (cases_lt (length p.rows) i) [
      | inl l ↦ rw (lt-ltb (length p.rows) i l) refl
      | inr l ↦
          rw (
            le-ltb (length p.rows) i l,
            le-ltb j p.columns (omega arith),
            ne_eqb j (p.columns + i) (λ e. absurd (omega arith)),
            ne_eqb j (p.columns + length p.rows + 1) (λ e. absurd (omega arith)),
          ) refl
    ]

start_basic : (p : LpView) (i : ℕ) → i ≤ length p.rows → (start_tableau p).basic i ≡ p.columns + i
start_basic p i inside = rw (le-ltb (length p.rows) i inside) refl

side_there : (p : LpView) (i : ℕ) → i < length p.rows → start_side p i ≡ (row_at p i).rhs
side_there p i within = rw (lt-ltb i (length p.rows) within) refl

-- no right-hand side of a programme is below 0
pub side_not_negative : (p : LpView) → IsLp p → (i : ℕ) → i < length p.rows → pos 0 ≤ℤ (row_at p i).rhs
side_not_negative p lp i within =
    let row = All-get_or (IsRow p.columns) p.rows i (record { cells = []; rhs = pos 0 }) within lp.rows in
    elim row.side [
      | inl none ↦ rw none (omega (arith, ints))
      | inr one ↦ rw one (omega (arith, ints))
    ]

pub start_canonical : (p : LpView) → IsLp p → IsCanonical (start_tableau p)
start_canonical p lp = record {
  last_basic = start_basic p (length p.rows) (omega arith);
  basic_within = λ i l. rw (start_basic p i (omega arith)) (omega arith);
  own_positive = λ i l. rw (start_basic p i l, start_own p i l) (omega (arith, ints));
  alone = λ i k l h apart. rw (start_basic p i l) (start_beside p k i h l (λ e. apart (sym e)));
  sides = λ i l. rw (start_last p i (omega arith), side_there p i l) (side_not_negative p lp i l);
}

pub start_derived : (p : LpView) → IsDerived (start_tableau p) (start_tableau p)
start_derived p = record {
  same_values = refl;
  same_constraints = refl;
  combined = λ i j l h.
      sym (
      single_sum (length p.rows + 1) i (λ k. start_cell p i (p.columns + k) *ℤ start_cell p k j) (omega arith)
      (λ k m apart. rw (start_beside p i k l (omega arith) apart) (zero_times (start_cell p k j)))
      ∙ rw (start_own p i l) (one_times (start_cell p i j))
      );
  solutions = λ x. (λ h. h, λ h. h);
}

-- a row of the start on a vector: the programme's row, the row's own number, and the right side times the last number
pub start_sum : (p : LpView) (i : ℕ) (x : ℕ → ℤ) → i ≤ length p.rows →
    row_sum (start_tableau p) i x ≡
    sum_below p.columns (λ j. value_cell p i j *ℤ x j) +ℤ x (p.columns + i) +ℤ start_side p i *ℤ x (p.columns + length p.rows + 1)
start_sum p i x inside =
    let n = p.columns in
    let m = length p.rows in
    let term = λ (j : ℕ). start_cell p i j *ℤ x j in
    let whole : sum_below (n + m + 2) term ≡ sum_below (n + (m + 1)) term +ℤ term (n + m + 1) =
    let e : n + m + 2 ≡ suc (n + (m + 1)) = omega arith in
    let f : n + (m + 1) ≡ n + m + 1 = omega arith in
    rw e (ap (λ k. sum_below (n + (m + 1)) term +ℤ term k) f) in
    let parts = split_sum n (m + 1) term in
    let left : sum_below n term ≡ sum_below n (λ j. value_cell p i j *ℤ x j) =
    same_sum n term (λ j. value_cell p i j *ℤ x j) (λ j l. ap (λ z. z *ℤ x j) (start_value p i j inside l)) in
    let own : sum_below (m + 1) (λ k. term (n + k)) ≡ term (n + i) =
    single_sum (m + 1) i (λ k. term (n + k)) (omega arith)
    (λ k l apart. ap (λ z. z *ℤ x (n + k)) (start_beside p i k inside (omega arith) apart) ∙ zero_times (x (n + k))) in
    let own_term : term (n + i) ≡ x (n + i) = ap (λ z. z *ℤ x (n + i)) (start_own p i inside) ∙ one_times (x (n + i)) in
    let side_term : term (n + m + 1) ≡ start_side p i *ℤ x (n + m + 1) = ap (λ z. z *ℤ x (n + m + 1)) (start_last p i inside) in
    whole ∙ omega (arith, ints, parts, left, own, own_term, side_term)
