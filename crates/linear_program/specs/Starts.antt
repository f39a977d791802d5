-- The tableau that a programme starts from: its rows, a slack for each, the objective, and the right-hand sides.
use Rattle.std.specs.Prelude.{◌≡◌, ℕ, ◌+◌, ℤ, pos, neg_ℤ, length, cond, nat_eq, nat_lt}
use Rattle.linear_program.specs.Programmes.{LpView, IsLp, cell_at, row_at, gain_at}
use Rattle.linear_program.specs.Duality.{IsBounded}
use Rattle.linear_program.specs.Tableaux.{TableauView}

-- the start's cells in the programme's columns: its rows, and below them minus the gain
abbrev pub value_cell : LpView → ℕ → ℕ → ℤ
value_cell p i j = cond (nat_lt i (length p.rows)) (cell_at (row_at p i).cells j) (neg_ℤ (gain_at p j))

-- the start's right-hand sides, 0 for the objective
abbrev pub start_side : LpView → ℕ → ℤ
start_side p i = cond (nat_lt i (length p.rows)) (row_at p i).rhs (pos 0)

-- the start's cells: those of the programme's columns, then 1 in each row's own column, then the right-hand sides; 0 beyond
abbrev pub start_cell : LpView → ℕ → ℕ → ℤ
start_cell p i j =
    cond (nat_lt (length p.rows) i) (pos 0)
    (cond (nat_lt j p.columns) (value_cell p i j)
    (cond (nat_eq j (p.columns + i)) (pos 1)
    (cond (nat_eq j (p.columns + length p.rows + 1)) (start_side p i) (pos 0))))

-- the start tableau, in which each row's own column is basic
abbrev pub start_tableau : LpView → TableauView
start_tableau p = record {
  values = p.columns;
  constraints = length p.rows;
  cell = start_cell p;
  basic = λ i. cond (nat_lt (length p.rows) i) 0 (p.columns + i);
}

-- the tableau is the start of a bounded programme
pub record IsBoundedStart (t : TableauView) : Type 0 where
  pub programme : LpView
  pub lp : IsLp programme
  pub bounded : IsBounded programme
  pub start : t ≡ start_tableau programme
