-- Bland's rule and the run of pivots.
-- Source: Bland, New finite pivoting rules for the simplex method.
use Rattle.std.specs.Prelude.{◌≡◌, ℕ, zero, suc, ◌+◌, ◌*◌, ◌<◌, ◌≤◌, ℤ, pos, negsuc, nat_abs, ◌≤ℤ◌, ◌<ℤ◌, ◌*ℤ◌, Bool, true, false, cond, nat_lt, Option, Some, None}
use Rattle.std.specs.declared.cmp.Ordering.{Ordering}
use Rattle.std.specs.declared.cmp.Ordering.TheVariants.{Less, Equal, Greater}
use Rattle.std.specs.Ordering.{nat_cmp}
use Rattle.linear_program.specs.Tableaux.{TableauView, objective_column, side_column}
use Rattle.linear_program.specs.Pivots.{first_below, Pivoted, pivoted}

-- the number is below 0
abbrev pub is_negative : ℤ → Bool
is_negative (pos n) = false
is_negative (negsuc n) = true

-- the number, or 0 where it is below 0
abbrev pub positive_part : ℤ → ℕ
positive_part (pos n) = n
positive_part (negsuc n) = 0

-- the first column of values and slacks that would gain
abbrev pub entering_column : TableauView → Option ℕ
entering_column t = first_below (objective_column t) (λ j. is_negative (t.cell t.constraints j))

-- how the ratios of right-hand side to cell of two rows compare
abbrev pub ratio_order : TableauView → ℕ → ℕ → ℕ → Ordering
ratio_order t column i k =
    nat_cmp (nat_abs (t.cell i (side_column t)) * positive_part (t.cell k column)) (nat_abs (t.cell k (side_column t)) * positive_part (t.cell i column))

-- by the order of two ratios, and where they are equal by the tie
abbrev pub before_by : Ordering → Bool → Bool
before_by Less tie = true
before_by Equal tie = tie
before_by Greater tie = false

-- a row leaves before another: its ratio is less, or it is equal and its basic column is less
abbrev pub leaves_before : TableauView → ℕ → ℕ → ℕ → Bool
leaves_before t column i k = before_by (ratio_order t column i k) (nat_lt (t.basic i) (t.basic k))

-- of a row and the best so far, the one that leaves
abbrev pub first_to_leave : TableauView → ℕ → ℕ → Option ℕ → Option ℕ
first_to_leave t column i (Some k) = cond (leaves_before t column i k) (Some i) (Some k)
first_to_leave t column i None = Some i

-- of the rows below n with a positive cell in the column, the one that leaves
abbrev pub leaving_below : TableauView → ℕ → ℕ → Option ℕ
leaving_below t column zero = None
leaving_below t column (suc i) =
    cond (nat_lt 0 (positive_part (t.cell i column))) (first_to_leave t column i (leaving_below t column i)) (leaving_below t column i)

-- the row that leaves for a column
abbrev pub leaving_row : TableauView → ℕ → Option ℕ
leaving_row t column = leaving_below t column t.constraints

-- one step of the run: it has ended, no row leaves, the pivot overflows, or there is a next tableau
pub data Step : Type 0 where
  ended : Step
  unlimited : Step
  overflow : ℕ → ℕ → Step
  next : TableauView → Step

-- the step that a pivot makes
abbrev pub step_by_pivot : Pivoted → Step
step_by_pivot (Pivoted.tableau u) = Step.next u
step_by_pivot (Pivoted.overflow i j) = Step.overflow i j

-- the step of an entering column and the row that leaves for it
abbrev pub step_by_row : TableauView → ℕ → Option ℕ → Step
step_by_row t column (Some row) = step_by_pivot (pivoted t row column)
step_by_row t column None = Step.unlimited

-- the step of the entering column
abbrev pub step_by_column : TableauView → Option ℕ → Step
step_by_column t (Some column) = step_by_row t column (leaving_row t column)
step_by_column t None = Step.ended

-- the step by Bland's rule
abbrev pub bland_step : TableauView → Step
bland_step t = step_by_column t (entering_column t)

-- how a run comes out, with the tableau that it reached
pub data Run : Type 0 where
  ended : TableauView → Run
  spent : TableauView → Run
  unlimited : TableauView → Run
  overflow : ℕ → ℕ → ℕ → TableauView → Run

-- without a pivot left, the run is spent where a column would gain
abbrev pub spent_unless_ended : TableauView → Option ℕ → Run
spent_unless_ended t (Some column) = Run.spent t
spent_unless_ended t None = Run.ended t

-- the run from a step on
abbrev pub run_on : TableauView → ℕ → (TableauView → Run) → Step → Run
run_on t made further Step.ended = Run.ended t
run_on t made further Step.unlimited = Run.unlimited t
run_on t made further (Step.overflow i j) = Run.overflow made i j t
run_on t made further (Step.next u) = further u

-- the run from a tableau with `left` pivots allowed and `made` made before
unfoldable pub run_from : ℕ → ℕ → TableauView → Run
run_from zero made t = spent_unless_ended t (entering_column t)
run_from (suc left) made t = run_on t made (λ u. run_from left (made + 1) u) (bland_step t)

-- the run of at most `limit` pivots
abbrev pub bland_run : ℕ → TableauView → Run
bland_run limit t = run_from limit 0 t

-- the row that leaves: of least ratio, and of least basic column among those
pub record IsLeaving (t : TableauView) (column row : ℕ) : Type 0 where
  pub within : row < t.constraints
  pub positive : pos 0 <ℤ t.cell row column
  pub least : (i : ℕ) → i < t.constraints → pos 0 <ℤ t.cell i column →
      (t.cell row (side_column t) *ℤ t.cell i column) ≤ℤ (t.cell i (side_column t) *ℤ t.cell row column)
  pub first : (i : ℕ) → i < t.constraints → pos 0 <ℤ t.cell i column →
      t.cell row (side_column t) *ℤ t.cell i column ≡ t.cell i (side_column t) *ℤ t.cell row column → t.basic row ≤ t.basic i

-- the column that enters
pub record IsEntering (t : TableauView) (column : ℕ) : Type 0 where
  pub within : column < objective_column t
  pub negative : t.cell t.constraints column <ℤ pos 0
  pub first : (j : ℕ) → j < column → pos 0 ≤ℤ t.cell t.constraints j
